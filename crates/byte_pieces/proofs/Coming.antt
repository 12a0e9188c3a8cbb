-- What came so far, and what a read makes of it.
use Rattle.std.proofs.Common.{◌≡◌, ℕ, ◌<◌, Bool, true, false, List, [], ◌++◌, length, drop, Option, None, Some, refl, sym, ap, ap₂, subst, ◌∙◌, append_assoc, arith, inl, inr}
use Rattle.std.specs.Prelude.{IfSome, is_some}
use Rattle.std.specs.Io.KnownBytes.{Consumes, IsAtEnd, Keeps}
use Rattle.std.proofs.lemmas.List.{append-nil, drop_at}
use Rattle.byte_pieces.specs.declared.fault.PieceFault.{PieceFault}
use Rattle.byte_pieces.specs.Coming.{CameNothing, CameSoFar, ComesOn, IsFresh, IsPart, MayBeAll, ReadsOn}

-- ---- what came

-- nothing came
pub comes_same : (came : CameSoFar) → ComesOn came came
comes_same came = record { first = record { more = []; parts = sym (append-nil came.bytes); over = λ h. refl }; over = λ h. h; whole = refl; fault = λ h. refl }

stays_failed : (a b c : CameSoFar) → b ≡ a → ComesOn b c → is_some a.fault ≡ true → c ≡ a
stays_failed a b c same n h = n.fault (subst (λ (x : CameSoFar). is_some x.fault ≡ true) (sym same) h) ∙ same

-- more came, and then more
pub comes_then : (a b c : CameSoFar) → ComesOn a b → ComesOn b c → ComesOn a c
comes_then a b c m n = record {
  first = record {
    more = m.first.more ++ n.first.more;
    parts = n.first.parts ∙ ap (λ (x : List ℕ). x ++ n.first.more) m.first.parts ∙ append_assoc a.bytes m.first.more n.first.more;
    over = λ h. ap₂ (λ (x y : List ℕ). x ++ y) (m.first.over h) (n.first.over (m.over h));
  };
  over = λ h. n.over (m.over h);
  whole = n.whole ∙ m.whole;
  fault = λ h. stays_failed a b c (m.fault h) n h;
}

nothing_of : (whole : Option (List ℕ)) (bytes : List ℕ) (is_over : Bool) → bytes ≡ [] → is_over ≡ false → IfSome whole (MayBeAll bytes is_over)
nothing_of None bytes is_over none begun = tt
nothing_of (Some all) bytes is_over none begun = record { more = all; parts = ap (λ (b : List ℕ). b ++ all) (sym none); over = λ h. absurd cc }

-- where nothing came yet, it is a part
pub fresh_part : (came : CameSoFar) → IsFresh came → IsPart came
fresh_part came fresh = nothing_of came.whole came.bytes came.is_over fresh.none fresh.begun

-- and a part stays one where nothing came
pub part_stays : (old new : CameSoFar) → CameNothing old new → IsPart old → IsPart new
part_stays old new same part = subst IsPart (sym same) part

-- ---- a read

pub keeps_same : (left : Option (List ℕ)) → Keeps left left
keeps_same None = tt
keeps_same (Some xs) = refl

pub keeps_then : (a b c : Option (List ℕ)) → Keeps a b → Keeps b c → Keeps a c
keeps_then None b c h k = tt
keeps_then (Some xs) None c h k = absurd h
keeps_then (Some xs) (Some ys) None h k = absurd k
keeps_then (Some xs) (Some ys) (Some zs) h k = k ∙ h

-- a read behind some that failed
pub consumes_behind : (a b c : Option (List ℕ)) (piece : List ℕ) → Keeps a b → Consumes b c piece → Consumes a c piece
consumes_behind None b c piece h k = tt
consumes_behind (Some xs) None c piece h k = absurd h
consumes_behind (Some xs) (Some ys) None piece h k = absurd k
consumes_behind (Some xs) (Some ys) (Some zs) piece h k = sym h ∙ k

-- a read behind what came
pub consumes_more : (whole left later : Option (List ℕ)) (bytes piece : List ℕ) → Consumes whole left bytes → Consumes left later piece → Consumes whole later (bytes ++ piece)
consumes_more None left later bytes piece h k = tt
consumes_more (Some xs) None later bytes piece h k = absurd h
consumes_more (Some xs) (Some ys) None bytes piece h k = absurd k
consumes_more (Some xs) (Some ys) (Some zs) bytes piece h k = h ∙ ap (λ (r : List ℕ). bytes ++ r) k ∙ sym (append_assoc bytes piece zs)

-- what came is a part of the whole
pub consumed_part : (whole left : Option (List ℕ)) (bytes : List ℕ) → Consumes whole left bytes → IfSome whole (MayBeAll bytes false)
consumed_part None left bytes h = tt
consumed_part (Some xs) None bytes h = absurd h
consumed_part (Some xs) (Some ys) bytes h = record { more = ys; parts = h; over = λ e. absurd cc }

-- and is all where nothing is left
pub consumed_all : (whole left : Option (List ℕ)) (bytes : List ℕ) (is_over : Bool) → Consumes whole left bytes → IsAtEnd left → IfSome whole (MayBeAll bytes is_over)
consumed_all None left bytes is_over h end = tt
consumed_all (Some xs) None bytes is_over h end = absurd h
consumed_all (Some xs) (Some ys) bytes is_over h end = record { more = ys; parts = h; over = λ e. end }

begins : (left : Option (List ℕ)) → Consumes left left []
begins None = tt
begins (Some xs) = refl

-- a reader that begins
pub reads_begin : (left : Option (List ℕ)) (fault : Option PieceFault) → ReadsOn (record { bytes = []; is_over = false; fault = fault; whole = left }) left
reads_begin left fault = record { left = λ h. begins left; part = nothing_of left [] false refl refl }

-- one more piece was read, in a window behind the rest
pub piece_read : (whole left later : Option (List ℕ)) (gave rest window piece : List ℕ) (n : ℕ) (is_over : Bool) (fault : Option PieceFault) → n ≡ length rest → window ≡ rest ++ piece → is_over ≡ false → Consumes whole left gave → Consumes left later piece
    → ReadsOn (record { bytes = gave ++ drop n window; is_over = is_over; fault = fault; whole = whole }) later
piece_read whole left later gave rest window piece n is_over fault long is begun before read =
    let dropped : drop n window ≡ piece = ap (drop n) is ∙ drop_at rest piece n (sym long) in
    let more = consumes_more whole left later gave piece before read in
    rw (dropped, begun) (record { left = λ none. more; part = consumed_part whole later (gave ++ piece) more })
