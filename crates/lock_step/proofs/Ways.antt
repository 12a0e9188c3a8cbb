-- What passes on links, one turn further.
use Rattle.std.proofs.Common.{◌≡◌, ℕ, Bool, true, false, cond, List, [], ◌∷◌, ◌++◌, Option, Some, None, refl, sym, ap, subst, ◌∙◌, arith, inl, inr}
use Rattle.std.specs.Prelude.{◌≢◌, ◌==◌, ◌&&◌, ◌||◌, not, min, max, find, reverse}
use Rattle.std.specs.List.{filter_map, cons_option}
use Rattle.std.specs.Option.{option_map, option_or}
use Rattle.std.proofs.lemmas.Bool.{eqb-true, eq-eqb, false≢true}
use Rattle.std.proofs.lemmas.Bool.Decides.{eqb_tells}
use Rattle.std.proofs.lemmas.List.{append-nil, reverse-append}
use Rattle.std.proofs.lemmas.List.Elements.{filter_map-append}
use Rattle.std.proofs.lemmas.List.Folds.{find-append}
use Rattle.vat_log.specs.Log.{Log}
use Rattle.vat_log.specs.Passages.{frame_sent, frame_received}
use Rattle.vat_log.specs.declared.body.Body.{Body}
use Rattle.vat_log.specs.declared.body.Body.TheVariants.{Send, Receive}
use Rattle.lock_step.specs.Directions.{BothWays, between}
use Rattle.lock_step.specs.declared.link_end.LinkEnd.{LinkEnd}
use Rattle.lock_step.specs.declared.link_end.LinkEnd.TheVariants.{First, Second}
use Rattle.link_check.specs.Prefix.{Ends}
use Rattle.turn_taking.specs.Turns.{Turns, records_taken, AreAll}
use Rattle.turn_taking.proofs.Counting.{records_more}
use Rattle.case_book.specs.declared.link.Link.{Link}
use Rattle.case_book.specs.Pieces.{IsComparisonOf}
use Rattle.lock_step.specs.declared.link_state.LinkState.{LinkState}
use Rattle.lock_step.specs.declared.link_table.LinkTable.{LinkTable}
use Rattle.lock_step.specs.Links.{LinkTurns, link_on, ways_of}
use Rattle.lock_step.specs.Glue.{end_of, with_record_at, link_with_turn, state_of, state_on, passes_on, IsLinkPassed, IsAdded, AreStates}

-- ---- the frames of one vat

frames_more : (f : Body → Option (List ℕ)) (v w : ℕ) (b : Body) (turns : Turns) → filter_map f (records_taken v ((w, b) ∷ turns)) ≡ filter_map f (records_taken v turns) ++ filter_map f (cond (w == v) (b ∷ []) [])
frames_more f v w b turns = ap (filter_map f) (records_more v w b turns) ∙ filter_map-append f (records_taken v turns) (cond (w == v) (b ∷ []) [])

-- ---- the frames of both ends

-- no vat is both of two
not_both : (first second w : ℕ) → first ≢ second → ((w == first) && (w == second)) ≡ false
not_both first second w apart =
    elim (eqb_tells w first) [
      | inr other ↦ ap (λ (t : Bool). t && (w == second)) other.0
      | inl same ↦
          elim (eqb_tells w second) [
            | inl both ↦ absurd (apart (sym same.1 ∙ both.1))
            | inr other ↦ ap (λ (t : Bool). t && (w == second)) same.0 ∙ other.0
          ]
    ]

-- these lists of frames: to the first end sent and received, and to the second
abbrev ways : List (List ℕ) → List (List ℕ) → List (List ℕ) → List (List ℕ) → BothWays
ways s r t u = record { to_first = record { sent = s; received = r }; to_second = record { sent = t; received = u } }

-- with the frames of a record that the first end may take, or the second
abbrev longer : ℕ → Bool → Bool → Body → List (List ℕ) → List (List ℕ) → List (List ℕ) → List (List ℕ) → BothWays
longer k first second b s r t u =
    ways (s ++ filter_map (frame_sent k) (cond second (b ∷ []) [])) (r ++ filter_map (frame_received k) (cond first (b ∷ []) [])) (t ++ filter_map (frame_sent k) (cond first (b ∷ []) []))
    (u ++ filter_map (frame_received k) (cond second (b ∷ []) []))

ways_more : (k first second w : ℕ) (b : Body) (turns : Turns) → ways_of k first second ((w, b) ∷ turns)
    ≡ longer k (w == first) (w == second) b (filter_map (frame_sent k) (records_taken second turns)) (filter_map (frame_received k) (records_taken first turns)) (filter_map (frame_sent k) (records_taken first turns))
    (filter_map (frame_received k) (records_taken second turns))
ways_more k first second w b turns =
    let s = frames_more (frame_sent k) second w b turns in
    let r = frames_more (frame_received k) first w b turns in
    let t = frames_more (frame_sent k) first w b turns in
    let u = frames_more (frame_received k) second w b turns in
    cc

-- a link with these ends and what passed there
abbrev state : ℕ → ℕ → BothWays → LinkState
state first second queues = record { first = first; second = second; queues = queues }

-- the end of the two that takes a record, if one does
abbrev taker : Bool → Bool → Option LinkEnd
taker first second = cond first (Some First) (cond second (Some Second) None)

none_more : (s r t u : List (List ℕ)) → ways (s ++ []) (r ++ []) (t ++ []) (u ++ []) ≡ ways s r t u
none_more s r t u = simp append-nil refl

-- a frame, if it is of this connection
abbrev frame_if : Bool → List ℕ → List (List ℕ)
frame_if here frame = cons_option (cond here (Some frame) None) []

sent_to_second : (here : Bool) (frame : List ℕ) (s r t u : List (List ℕ)) → ways (s ++ []) (r ++ []) (t ++ frame_if here frame) (u ++ []) ≡ cond (here || false) (ways s r (t ++ frame ∷ []) u) (ways s r t u)
sent_to_second true frame s r t u = simp append-nil refl
sent_to_second false frame s r t u = none_more s r t u

received_by_first : (here : Bool) (frame : List ℕ) (s r t u : List (List ℕ)) → ways (s ++ []) (r ++ frame_if here frame) (t ++ []) (u ++ []) ≡ cond here (ways s (r ++ frame ∷ []) t u) (ways s r t u)
received_by_first true frame s r t u = simp append-nil refl
received_by_first false frame s r t u = none_more s r t u

sent_to_first : (here : Bool) (frame : List ℕ) (s r t u : List (List ℕ)) → ways (s ++ frame_if here frame) (r ++ []) (t ++ []) (u ++ []) ≡ cond (here || false) (ways (s ++ frame ∷ []) r t u) (ways s r t u)
sent_to_first true frame s r t u = simp append-nil refl
sent_to_first false frame s r t u = none_more s r t u

received_by_second : (here : Bool) (frame : List ℕ) (s r t u : List (List ℕ)) → ways (s ++ []) (r ++ []) (t ++ []) (u ++ frame_if here frame) ≡ cond here (ways s r t (u ++ frame ∷ [])) (ways s r t u)
received_by_second true frame s r t u = simp append-nil refl
received_by_second false frame s r t u = none_more s r t u

same_either_way : {X : Type 0} (here : Bool) (one : X) → cond here one one ≡ one
same_either_way true one = refl
same_either_way false one = refl

one_of_two : (k : ℕ) (first second : Bool) (b : Body) (s r t u : List (List ℕ)) → (first && second) ≡ false
    → longer k first second b s r t u ≡ cond (passes_on k b) (with_record_at (taker first second) b (ways s r t u)) (ways s r t u)
one_of_two k true true b s r t u apart = absurd cc
one_of_two k true false (Send on call references frame) s r t u apart = sent_to_second (on == k) frame s r t u
one_of_two k true false (Receive on call references frame) s r t u apart = received_by_first (on == k) frame s r t u
one_of_two k true false _ s r t u apart = none_more s r t u
one_of_two k false true (Send on call references frame) s r t u apart = sent_to_first (on == k) frame s r t u
one_of_two k false true (Receive on call references frame) s r t u apart = received_by_second (on == k) frame s r t u
one_of_two k false true _ s r t u apart = none_more s r t u
one_of_two k false false b s r t u apart = none_more s r t u ∙ sym (same_either_way (passes_on k b) (ways s r t u))

-- what two vats passed to each other, one turn further
ways_further : (k first second w : ℕ) (b : Body) (turns : Turns) → first ≢ second → ways_of k first second ((w, b) ∷ turns)
    ≡ cond (passes_on k b) (with_record_at (end_of first second w) b (ways_of k first second turns)) (ways_of k first second turns)
ways_further k first second w b turns apart = ways_more k first second w b turns ∙ one_of_two k (w == first) (w == second) b _ _ _ _ (not_both first second w apart)

-- ---- the links

queues_if : (first second : ℕ) (here : Bool) (one other : BothWays) → state first second (cond here one other) ≡ cond here (state first second one) (state first second other)
queues_if first second true one other = refl
queues_if first second false one other = refl

state_further : (link : Link) (w : ℕ) (b : Body) (turns : Turns) → (link.a == link.b) ≡ false
    → state_of ((w, b) ∷ turns) link ≡ cond (passes_on link.connection b) (link_with_turn w b (state_of turns link)) (state_of turns link)
state_further link w b turns two =
    let first = min link.a link.b in
    let second = max link.a link.b in
    let apart : link.a ≢ link.b = λ e. false≢true (sym two ∙ eq-eqb link.a link.b e) in
    let ends : first ≢ second = omega arith in
    ap (state first second) (ways_further link.connection first second w b turns ends) ∙ queues_if first second (passes_on link.connection b) _ _

passes : {X : Type 0} (v : Bool) (p : X → Bool) (y : X) (ys : List X) (x : X) → p y ≡ v → cond v (Some y) (find p ys) ≡ Some x → (find p ys ≡ Some x → p x ≡ true) → p x ≡ true
passes true p y ys x here is later = cc
passes false p y ys x there is later = later is

-- what is found passes the test
found_by : {X : Type 0} (p : X → Bool) (xs : List X) (x : X) → find p xs ≡ Some x → p x ≡ true
found_by p [] x is = absurd cc
found_by p (y ∷ ys) x is = passes (p y) p y ys x refl is (found_by p ys x)

both_true : (a b : Bool) → (a && not b) ≡ true → (a ≡ true) × (b ≡ false)
both_true true true e = absurd cc
both_true true false e = (refl, refl)
both_true false b e = absurd cc

-- the link of a connection is there, and its ends are two vats
pub link_is : (links : List Link) (k : ℕ) (link : Link) → link_on links k ≡ Some link → (link.connection ≡ k) × ((link.a == link.b) ≡ false)
link_is links k link is =
    let both = both_true (link.connection == k) (link.a == link.b) (found_by (λ (l : Link). (l.connection == k) && not (l.a == l.b)) links link is) in
    (eqb-true link.connection k both.0, both.1)

some_if : {X : Type 0} (here : Bool) (one other : X) → cond here (Some one) (Some other) ≡ Some (cond here one other)
some_if true one other = refl
some_if false one other = refl

one_further : (k w : ℕ) (b : Body) (turns : Turns) (kept : Option Link) → ((link : Link) → kept ≡ Some link → (link.connection ≡ k) × ((link.a == link.b) ≡ false))
    → cond (passes_on k b) (option_map (link_with_turn w b) (option_map (state_of turns) kept)) (option_map (state_of turns) kept) ≡ option_map (state_of ((w, b) ∷ turns)) kept
one_further k w b turns None is = same_either_way (passes_on k b) None
one_further k w b turns (Some link) is =
    let so = is link refl in
    let further = state_further link w b turns so.1 in
    some_if (passes_on k b) _ _ ∙ ap (λ (j : ℕ). Some (cond (passes_on j b) (link_with_turn w b (state_of turns link)) (state_of turns link))) (sym so.0) ∙ sym (ap Some further)

-- the links are kept, one turn further
pub further : (links : List Link) (w : ℕ) (b : Body) (turns : Turns) (old new : LinkTable) → AreStates links turns old → IsLinkPassed w b old new → AreStates links ((w, b) ∷ turns) new
further links w b turns old new are passed k =
    passed k ∙ ap (λ (o : Option LinkState). cond (passes_on k b) (option_map (link_with_turn w b) o) o) (are k) ∙ one_further k w b turns (link_on links k) (link_is links k)

-- what is kept of a link
state_is : (links : List Link) (turns : Turns) (table : LinkTable) (k : ℕ) (link : Link) (state : LinkState) → AreStates links turns table → Some state ≡ state_on table k → link_on links k ≡ Some link
    → state ≡ state_of turns link
state_is links turns table k link state are kept found =
    let same = kept ∙ are k ∙ ap (option_map (state_of turns)) found in
    cc

or_either : (link : Link) (kept : Option Link) (test : Bool) → option_or (option_map (state_of []) kept) (cond test (Some (state_of [] link)) None) ≡ option_map (state_of []) (option_or kept (cond test (Some link) None))
or_either link None true = refl
or_either link None false = refl
or_either link (Some other) test = refl

added_behind : (links : List Link) (link : Link) (old new : LinkTable) → AreStates links [] old → IsAdded link old new → AreStates (links ++ link ∷ []) [] new
added_behind links link old new are added k =
    let test : Link → Bool = λ l. (l.connection == k) && not (l.a == l.b) in
    added k ∙ ap (λ (o : Option LinkState). option_or o (cond (test link) (Some (state_of [] link)) None)) (are k) ∙ or_either link (link_on links k) (test link)
    ∙ sym (ap (option_map (state_of [])) (find-append test links (link ∷ [])))

-- one link more, of those added the newest first
pub added_one : (added : List Link) (link : Link) (old new : LinkTable) → AreStates (reverse added) [] old → IsAdded link old new → AreStates (reverse (link ∷ added)) [] new
added_one added link old new are is =
    subst (λ (links : List Link). AreStates links [] new) (sym (reverse-append (link ∷ []) added)) (added_behind (reverse added) link old new are is)

-- ---- whole logs

-- what the ends of a link passed to each other, where these turns are all records of the logs
ends_passed : (logs : List Log) (turns : Turns) (link : Link) (ends : Ends) → AreAll logs turns → IsComparisonOf logs link ends → between ends ≡ ways_of link.connection (min link.a link.b) (max link.a link.b) turns
ends_passed logs turns link ends all is =
    let first = all.taken ends.first is.first_held ∙ ap (λ (v : ℕ). records_taken v turns) is.smaller in
    let second = all.taken ends.second is.second_held ∙ ap (λ (v : ℕ). records_taken v turns) is.greater in
    let passed : ℕ → List Body → List Body → BothWays = λ k one other. ways (filter_map (frame_sent k) other) (filter_map (frame_received k) one) (filter_map (frame_sent k) one) (filter_map (frame_received k) other) in
    ap (λ (k : ℕ). passed k ends.first.records ends.second.records) is.connection ∙ ap (λ (one : List Body). passed link.connection one ends.second.records) first ∙ ap (passed link.connection (records_taken (min link.a link.b) turns)) second

-- the ends of a link are those of what is kept, and so is what they passed to each other
pub record AreEnds (ends : Ends) (state : LinkState) : Type 0 where
  pub first : ends.first.vat ≡ state.first
  pub second : ends.second.vat ≡ state.second
  pub passed : between ends ≡ state.queues

-- the link of a connection is on it
on_its_connection : (links : List Link) (k : ℕ) (link : Link) → link_on links k ≡ Some link → link.connection ≡ k
on_its_connection [] k link found = absurd (let no : ⊥ = cc in no)
on_its_connection (one ∷ links) k link found = at (one.connection == k) (one.a == one.b) refl found (on_its_connection links k link)
  where
    at : (here same : Bool) → (one.connection == k) ≡ here → cond (here && not same) (Some one) (link_on links k) ≡ Some link → (link_on links k ≡ Some link → link.connection ≡ k) → link.connection ≡ k
    at true false here found rest = let is : one ≡ link = cc in ap (λ (l : Link). l.connection) (sym is) ∙ eqb-true one.connection k here
    at true true here found rest = rest found
    at false same here found rest = rest found

-- what is kept of a connection is of a link there
kept_of : (links : List Link) (turns : Turns) (table : LinkTable) (k : ℕ) (state : LinkState) → AreStates links turns table → Some state ≡ state_on table k → (link : Link) × (link.connection ≡ k) × (state ≡ state_of turns link)
kept_of links turns table k state are kept = at (link_on links k) refl
  where
    at : (found : Option Link) → link_on links k ≡ found → (link : Link) × (link.connection ≡ k) × (state ≡ state_of turns link)
    at None none = absurd (let same = kept ∙ are k ∙ ap (option_map (state_of turns)) none in let no : ⊥ = cc in no)
    at (Some link) found = (link, on_its_connection links k link found, state_is links turns table k link state are kept found)

pub ends_are : (table : LinkTable) (kept : LinkTurns) (link : Link) (state : LinkState) → AreStates kept.links kept.turns table → Some state ≡ state_on table link.connection
    → state.first ≡ min link.a link.b → state.second ≡ max link.a link.b → (logs : List Log) (ends : Ends) → AreAll logs kept.turns → IsComparisonOf logs link ends → AreEnds ends state
ends_are table kept link state are there first second logs ends all is =
    let other = kept_of kept.links kept.turns table link.connection state are there in
    let same = other.2 in
    let first_is : min other.0.a other.0.b ≡ min link.a link.b = sym (ap (λ (s : LinkState). s.first) same) ∙ first in
    let second_is : max other.0.a other.0.b ≡ max link.a link.b = sym (ap (λ (s : LinkState). s.second) same) ∙ second in
    record {
      first = is.smaller ∙ sym first;
      second = is.greater ∙ sym second;
      passed = ends_passed logs kept.turns link ends all is ∙ ap (λ (k : ℕ). ways_of k (min link.a link.b) (max link.a link.b) kept.turns) (sym other.1)
          ∙ ap (λ (f : ℕ). ways_of other.0.connection f (max link.a link.b) kept.turns) (sym first_is) ∙ ap (λ (g : ℕ). ways_of other.0.connection (min other.0.a other.0.b) g kept.turns) (sym second_is)
          ∙ ap (λ (s : LinkState). s.queues) (sym same);
    }
