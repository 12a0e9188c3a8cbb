-- Where records end in the bytes of a log.
use Rattle.std.proofs.Common.{◌≡◌, ℕ, ◌+◌, ◌-◌, ◌<◌, List, [], ◌∷◌, ◌++◌, length, get_or, take, drop, sym, ap, subst, ◌∙◌, append_assoc, arith, inl, inr}
use Rattle.std.specs.List.{slice_range}
use Rattle.std.specs.Int.{w32, w64}
use Rattle.std.proofs.lemmas.Bool.{cases_lt}
use Rattle.std.proofs.lemmas.List.{length-append, length-take-le, take-append-le, drop-take, get_or_append_left, get_or_default}
use Rattle.std.proofs.Math.Seq.{take-length, drop-append_seam, get_or-append_seam}
use Rattle.vat_log.specs.declared.body.Body.{Body}
use Rattle.vat_log.specs.Ends.{EndsWith, AreEnds}
use Rattle.vat_log.specs.Log.{written_version}
use Rattle.vat_log.specs.Spelling.{number_bytes, references_bytes, record_bytes}

-- what is written behind it changes nothing
EndsWith-more : (bytes more : List ℕ) (end : ℕ) (text : List ℕ) → EndsWith bytes end text → EndsWith (bytes ++ more) end text
EndsWith-more bytes more end text e = record {
  within = omega (arith, e.within, length-append bytes more);
  front = e.front;
  parts = take-append-le end bytes more e.within ∙ e.parts;
}

EndsWith-last : (bytes text : List ℕ) → EndsWith (bytes ++ text) (length (bytes ++ text)) text
EndsWith-last bytes text = record { within = omega arith; front = bytes; parts = take-length (bytes ++ text) }

-- one more record was written
pub ends_more : (out more : List ℕ) (records : List Body) (ends : List ℕ) (i : ℕ) (x : Body) → more ≡ out ++ record_bytes written_version x → i < length records → length ends ≡ i → x ≡ get_or records i x → AreEnds out records ends
    → AreEnds more records (ends ++ length more ∷ [])
ends_more out more records ends i x step lt count is so_far k d within =
    elim (cases_lt k (length ends)) [
      | inl less ↦
          let before : EndsWith more (get_or ends k 0) (record_bytes written_version (get_or records k d)) =
          subst (λ (bytes : List ℕ). EndsWith bytes (get_or ends k 0) (record_bytes written_version (get_or records k d))) (sym step) (EndsWith-more out (record_bytes written_version x) (get_or ends k 0) (record_bytes written_version (get_or records k d)) (so_far k d less)) in
          subst (λ (end : ℕ). EndsWith more end (record_bytes written_version (get_or records k d))) (sym (get_or_append_left ends (length more ∷ []) 0 k less)) before
      | inr past ↦
          let last : k ≡ length ends = omega (arith, within, length-append ends (length more ∷ [])) in
          let place : get_or (ends ++ length more ∷ []) k 0 ≡ length more = ap (λ (n : ℕ). get_or (ends ++ length more ∷ []) n 0) last ∙ get_or-append_seam ends (length more) [] 0 in
          let said : get_or records k d ≡ x = ap (λ (n : ℕ). get_or records n d) (last ∙ count) ∙ get_or_default records i d x lt ∙ sym is in
          let now : EndsWith more (length more) (record_bytes written_version x) = subst (λ (bytes : List ℕ). EndsWith bytes (length bytes) (record_bytes written_version x)) (sym step) (EndsWith-last out (record_bytes written_version x)) in
          subst (λ (end : ℕ). EndsWith more end (record_bytes written_version (get_or records k d))) (sym place) (subst (λ (b : Body). EndsWith more (length more) (record_bytes written_version b)) (sym said) now)
    ]

-- ---- a text that ends at a place, cut out there

pub end_fits : (bytes : List ℕ) (end : ℕ) (text : List ℕ) (e : EndsWith bytes end text) → length e.front + length text ≡ end
end_fits bytes end text e = omega (arith, length-take-le end bytes e.within, ap length e.parts, length-append e.front text)

pub cut_is : (bytes : List ℕ) (end : ℕ) (text : List ℕ) → EndsWith bytes end text → slice_range bytes (end - length text) end ≡ text
cut_is bytes end text e =
    let n = length e.front in
    let all : n + length text ≡ end = end_fits bytes end text e in
    let begin : end - length text ≡ n = omega arith in
    let size : end - n ≡ length text = omega arith in
    let one : slice_range bytes n end ≡ take (length text) (drop n bytes) = ap (λ (m : ℕ). take m (drop n bytes)) size in
    let two : drop n (take end bytes) ≡ text = ap (drop n) e.parts ∙ drop-append_seam e.front text in
    ap (λ (b : ℕ). slice_range bytes b end) begin ∙ one ∙ sym (drop-take n (length text) bytes) ∙ ap (λ (m : ℕ). drop n (take m bytes)) all ∙ two

-- a record with a frame ends with it
last_part : (front : List ℕ) (kind : ℕ) (a b c d frame : List ℕ) → front ++ (kind ∷ (a ++ (b ++ (c ++ (d ++ frame))))) ≡ (front ++ (kind ∷ (a ++ (b ++ (c ++ d))))) ++ frame
last_part front kind a b c d frame = simp append_assoc

pub frame_ends : (bytes : List ℕ) (end kind connection call : ℕ) (references frame : List ℕ)
    → EndsWith bytes end (kind ∷ (number_bytes w32 connection ++ (number_bytes w64 call ++ (references_bytes written_version references ++ (number_bytes w32 (length frame) ++ frame))))) → EndsWith bytes end frame
frame_ends bytes end kind connection call references frame e = record {
  within = e.within;
  front = e.front ++ (kind ∷ (number_bytes w32 connection ++ (number_bytes w64 call ++ (references_bytes written_version references ++ number_bytes w32 (length frame)))));
  parts = e.parts ∙ last_part e.front kind (number_bytes w32 connection) (number_bytes w64 call) (references_bytes written_version references) (number_bytes w32 (length frame)) frame;
}
