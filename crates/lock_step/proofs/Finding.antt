-- The links of a case by their connections.
use Rattle.std.proofs.Common.{◌≡◌, ℕ, zero, suc, ◌<◌, Bool, true, false, cond, List, [], ◌∷◌, length, get_or, Some, sym, ap, ◌∙◌, arith}
use Rattle.std.specs.Prelude.{◌≢◌, ◌==◌, ◌&&◌, not, map}
use Rattle.std.specs.List.Sorted.{IsStrictlyIncreasing}
use Rattle.std.proofs.lemmas.Bool.{eq-eqb}
use Rattle.merge_order.proofs.Greedy.{eqb_apart}
use Rattle.merge_order.proofs.Steps.{rising_tail}
use Rattle.case_book.specs.Case.{connections_of}
use Rattle.case_book.specs.declared.link.Link.{Link}
use Rattle.lock_step.specs.Links.{link_on}
use Rattle.lock_step.proofs.Rising.{above_first}

this_one : {X : Type 0} (here same : Bool) (one other : X) → here ≡ true → same ≡ false → cond (here && not same) one other ≡ one
this_one here same one other is_here apart = cc

not_this : {X : Type 0} (here two : Bool) (one other : X) → here ≡ false → cond (here && two) one other ≡ other
not_this here two one other elsewhere = cc

pub found : (links : List Link) (link : Link) (i : ℕ) → IsStrictlyIncreasing (connections_of links) → i < length links → get_or links i link ≡ link → link.a ≢ link.b → link_on links link.connection ≡ Some link
found [] link i rising lt is apart = absurd (omega arith)
found (one ∷ links) link zero rising lt is apart =
    this_one (one.connection == link.connection) (one.a == one.b) (Some one) (link_on links link.connection) (eq-eqb _ _ (ap (λ (l : Link). l.connection) is))
    (eqb_apart one.a one.b (λ e. apart (sym (ap (λ (l : Link). l.a) is) ∙ e ∙ ap (λ (l : Link). l.b) is)))
    ∙ ap Some is
found (one ∷ links) link (suc i) rising lt is apart =
    let less = above_first (λ (l : Link). l.connection) one links i link rising (omega arith) in
    let other : one.connection ≢ link.connection = λ e. omega (arith, less, e, ap (λ (l : Link). l.connection) is) in
    not_this (one.connection == link.connection) (not (one.a == one.b)) (Some one) (link_on links link.connection) (eqb_apart _ _ other)
    ∙ found links link i (rising_tail one.connection (map (λ l. l.connection) links) rising) (omega arith) is apart
