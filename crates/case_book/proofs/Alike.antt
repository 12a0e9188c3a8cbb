-- Lists that differ at a place, and cases that have the same logs.
use Rattle.std.proofs.Common.{◌≡◌, ℕ, Bool, true, false, List, get_or, refl, sym, ap, subst, ◌∙◌}
use Rattle.std.specs.Prelude.{◌==◌, ◌&&◌, Decides}
use Rattle.std.proofs.lemmas.Bool.{and_parts, eqb-true, eq-eqb}
use lib.Pointwise.{pointwise, pointwise_decides}
use Rattle.vat_log.specs.Log.{Log}
use Rattle.case_book.specs.Case.{Contents}
use Rattle.case_book.specs.declared.link.Link.{Link}

-- lists that differ at a place aren't equal
pub unlike : {X : Type 0} (xs ys : List X) (i : ℕ) (d : X) (alike : Bool) → alike ≡ false → (get_or xs i d ≡ get_or ys i d → alike ≡ true) → Decides false (xs ≡ ys)
unlike xs ys i d alike isnt so = (λ e. cc, λ same. absurd (let e = sym isnt ∙ so (ap (λ zs. get_or zs i d) same) in cc))

abbrev make : List Log → List Link → Contents
make logs links = record { logs = logs; links = links }

-- ---- links are compared number by number

abbrev link : ℕ → ℕ → ℕ → Link
link connection a b = record { connection = connection; a = a; b = b }

abbrev pub link_eq : Link → Link → Bool
link_eq x y = (x.connection == y.connection) && ((x.a == y.a) && (x.b == y.b))

all_same : (x y : Link) → link_eq x y ≡ true → x ≡ y
all_same x y e =
    let one = and_parts (x.connection == y.connection) ((x.a == y.a) && (x.b == y.b)) e in
    let two = and_parts (x.a == y.a) (x.b == y.b) one.1 in
    ap (λ n. link n x.a x.b) (eqb-true x.connection y.connection one.0) ∙ ap (λ n. link y.connection n x.b) (eqb-true x.a y.a two.0) ∙ ap (link y.connection y.a) (eqb-true x.b y.b two.1)

own : (x : Link) → link_eq x x ≡ true
own x = rw (eq-eqb x.connection x.connection refl, eq-eqb x.a x.a refl, eq-eqb x.b x.b refl) refl

link_decides : (x y : Link) → Decides (link_eq x y) (x ≡ y)
link_decides x y = (all_same x y, λ same. subst (λ z. link_eq x z ≡ true) same (own x))

pub links_decide : (xs ys : List Link) → Decides (pointwise link_eq xs ys) (xs ≡ ys)
links_decide = pointwise_decides link_decides

-- ---- two cases whose logs are the same are the same where their links are

pub alike : (one other : Contents) (links : Bool) → one.logs ≡ other.logs → Decides links (one.links ≡ other.links) → Decides links (one ≡ other)
alike one other links logs so = (
  λ e. ap (λ (held : List Log). make held one.links) logs ∙ ap (make other.logs) (so.0 e),
  λ same. so.1 (ap (λ (held : Contents). held.links) same),
)
