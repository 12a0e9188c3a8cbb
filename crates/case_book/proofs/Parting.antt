-- The findings of a whole case, parted into those of vats and those of links.
use Rattle.std.proofs.Common.{◌≡◌, ℕ, ◌-◌, ◌<◌, ◌≤◌, List, [], ◌∷◌, ◌++◌, length, map, Option, Some, None, refl, sym, ap, ◌∙◌, subst, append_assoc, arith}
use Rattle.std.specs.Prelude.{min, slice_get}
use Rattle.std.proofs.lemmas.List.{length-append, map-append, append-nil}
use Rattle.vat_rules.specs.Audit.{Found}
use Rattle.link_check.specs.Prefix.{Ends}
use Rattle.case_book.specs.Glue.{ArePlaced}
use Rattle.case_book.specs.declared.piece_finding.Finding.{Finding}
use Rattle.case_book.specs.declared.piece_finding.Finding.TheVariants as finding

pub in_middle : {X : Type 0} (xs ys : List X) (x : X) → slice_get (xs ++ x ∷ ys) (length xs) ≡ Some x
in_middle [] ys x = refl
in_middle (y ∷ xs) ys x = in_middle xs ys x

empty : {X : Type 0} (xs : List X) → length xs ≡ 0 → xs ≡ []
empty [] e = refl
empty (x ∷ xs) e = absurd (omega arith)

-- the places of so many findings, parted
pub record AreParted (vats : List Found) (links : List Ends) (n : ℕ) (yielded : List (Option Finding)) : Type 0 where
  pub so_far : map Some (map finding.Vat vats ++ map finding.Link links) ≡ yielded
  pub vats_are : length vats ≡ min (length yielded) n
  pub links_are : length links ≡ length yielded - n

module _ (found : List (Option Finding)) (n m : ℕ) (placed : ArePlaced found n m) (vats : List Found) (links : List Ends) (yielded rest : List (Option Finding)) (parted : AreParted vats links n yielded) where
  pub vat_room : (audited : Found) → found ≡ yielded ++ Some (finding.Vat audited) ∷ rest → length yielded < n
  vat_room audited split = placed.vat_first (length yielded) audited (ap (λ (xs : List (Option Finding)). slice_get xs (length yielded)) split ∙ in_middle yielded rest (Some (finding.Vat audited)))

  pub link_begin : (compared : Ends) → found ≡ yielded ++ Some (finding.Link compared) ∷ rest → n ≤ length yielded
  link_begin compared split = placed.link_behind (length yielded) compared (ap (λ (xs : List (Option Finding)). slice_get xs (length yielded)) split ∙ in_middle yielded rest (Some (finding.Link compared)))

  pub link_room : (compared : Ends) → found ≡ yielded ++ Some (finding.Link compared) ∷ rest → length links < m
  link_room compared split =
      let all = ap length split ∙ length-append yielded (Some (finding.Link compared) ∷ rest) in
      omega (arith, all, placed.each, parted.links_are, link_begin compared split)

  pub not_empty : found ≡ yielded ++ None ∷ rest → ⊥
  not_empty split = placed.whole (length yielded) (ap (λ (xs : List (Option Finding)). slice_get xs (length yielded)) split ∙ in_middle yielded rest None)

  pub vat_next : (audited : Found) → found ≡ yielded ++ Some (finding.Vat audited) ∷ rest → AreParted (vats ++ audited ∷ []) links n (yielded ++ Some (finding.Vat audited) ∷ [])
  vat_next audited split =
      let room = vat_room audited split in
      let none : links ≡ [] = empty links (omega (arith, parted.links_are, room)) in
      let before = subst (λ (ls : List Ends). map Some (map finding.Vat vats ++ map finding.Link ls) ≡ yielded) none parted.so_far in
      let bare : map Some (map finding.Vat vats) ≡ yielded = ap (map Some) (sym (append-nil (map finding.Vat vats))) ∙ before in
      record {
        so_far = subst (λ (ls : List Ends). map Some (map finding.Vat (vats ++ audited ∷ []) ++ map finding.Link ls) ≡ yielded ++ Some (finding.Vat audited) ∷ []) (sym none)
            (simp (append-nil, map-append) (ap (λ (xs : List (Option Finding)). xs ++ Some (finding.Vat audited) ∷ []) bare));
        vats_are = omega (arith, parted.vats_are, room, length-append vats (audited ∷ []), length-append yielded (Some (finding.Vat audited) ∷ []));
        links_are = omega (arith, parted.links_are, room, length-append yielded (Some (finding.Vat audited) ∷ []));
      }

  pub link_next : (compared : Ends) → found ≡ yielded ++ Some (finding.Link compared) ∷ rest → AreParted vats (links ++ compared ∷ []) n (yielded ++ Some (finding.Link compared) ∷ [])
  link_next compared split =
      let begin = link_begin compared split in
      record {
        so_far = ap (λ (xs : List Finding). map Some (map finding.Vat vats ++ xs)) (map-append finding.Link links (compared ∷ []))
            ∙ ap (map Some) (sym (append_assoc (map finding.Vat vats) (map finding.Link links) (finding.Link compared ∷ [])))
            ∙ map-append Some (map finding.Vat vats ++ map finding.Link links) (finding.Link compared ∷ [])
            ∙ ap (λ (xs : List (Option Finding)). xs ++ Some (finding.Link compared) ∷ []) parted.so_far;
        vats_are = omega (arith, parted.vats_are, begin, length-append yielded (Some (finding.Link compared) ∷ []));
        links_are = omega (arith, parted.links_are, begin, length-append links (compared ∷ []), length-append yielded (Some (finding.Link compared) ∷ []));
      }
