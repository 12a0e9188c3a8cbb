-- What passed on a connection stays, where it has another number.
use Rattle.std.proofs.Common.{◌≡◌, ◌⊎◌, inl, inr, ℕ, ◌+◌, ◌<◌, ◌≤◌, ◌==◌, List, [], ◌∷◌, ◌++◌, Option, Some, None, length, map, refl, sym, ap, ap₂, subst, ◌∙◌, arith}
use Rattle.std.specs.Prelude.{slice_get, if◌then◌else◌}
use Rattle.std.specs.List.{filter_map, cons_option}
use Rattle.std.proofs.lemmas.Option.{same_Some, slice_get-get_or}
use Rattle.std.proofs.lemmas.Bool.{cases_eq, eq-eqb, ne_eqb}
use Rattle.vat_log.specs.Log.{Log, written_version}
use Rattle.vat_log.specs.declared.body.Body.{Body}
use Rattle.vat_log.specs.declared.body.Body.TheVariants.{Send, Receive}
use Rattle.link_check.specs.Prefix.{IsPrefix, frames_sent, frames_received}
use Rattle.vat_log.specs.Passages.{frame_sent, frame_received}
use Rattle.log_ends.specs.Ends.{IsEnd, Fits, log_at, sent_at, received_at}
use Rattle.log_ends.specs.Joining.{Has, ArePairs, IsJoined}
use Rattle.log_ends.specs.Renumbering.{renumbered_body, IsRenumbered, AreRenumbered, end_in}
use Rattle.log_ends.specs.declared.log_end.LogEnd.{LogEnd}
use Rattle.log_ends.specs.declared.log_end.EndPair.{EndPair}
use Rattle.log_ends.proofs.Fitting.{same_symmetric, fits_end}
use Rattle.log_ends.proofs.Places.{of_a_log}

-- ---- two ends of one pair

pub matched : (logs : List Log) (pairs : List EndPair) (number : ℕ) (one other : LogEnd) → ArePairs logs pairs → Has pairs number one → Has pairs number other → (one ≡ other → ⊥) → Fits logs one other
matched logs pairs number one other are a b apart = by same a.ends b.ends where
  same : b.pair ≡ a.pair
  same = same_Some b.pair a.pair (sym b.there ∙ a.there)

  fits : Fits logs a.pair.first a.pair.second
  fits = are.fit number a.pair a.there

  by : b.pair ≡ a.pair → (a.pair.first ≡ one) ⊎ (a.pair.second ≡ one) → (b.pair.first ≡ other) ⊎ (b.pair.second ≡ other) → Fits logs one other
  by e (inl p) (inl q) = absurd (apart (sym p ∙ ap (λ (x : EndPair). x.first) (sym e) ∙ q))
  by e (inr p) (inr q) = absurd (apart (sym p ∙ ap (λ (x : EndPair). x.second) (sym e) ∙ q))
  by e (inl p) (inr q) = subst (λ (x : LogEnd). Fits logs x other) p (subst (λ (x : LogEnd). Fits logs a.pair.first x) (ap (λ (x : EndPair). x.second) (sym e) ∙ q) fits)
  by e (inr p) (inl q) = subst (λ (x : LogEnd). Fits logs x other) p (subst (λ (x : LogEnd). Fits logs a.pair.second x) (ap (λ (x : EndPair). x.first) (sym e) ∙ q) (same_symmetric logs a.pair.first a.pair.second fits))

same_end : (logs : List Log) (pairs : List EndPair) (number place a b : ℕ) → ArePairs logs pairs → Has pairs number (end_in place a) → Has pairs number (end_in place b) → a ≡ b
same_end logs pairs number place a b are one other = by (cases_eq a b) where
  by : (a ≡ b) ⊎ (a ≡ b → ⊥) → a ≡ b
  by (inl e) = e
  by (inr apart) = absurd ((matched logs pairs number (end_in place a) (end_in place b) are one other (λ e. apart (ap (λ (x : LogEnd). x.connection) e))).apart refl)

pub injective : (logs : List Log) (pairs : List EndPair) (place : ℕ) (old new : Log) (is : IsRenumbered logs pairs place old new) (a b : ℕ) → ArePairs logs pairs → IsEnd logs (end_in place a) → IsEnd logs (end_in place b) → is.number a ≡ is.number b → a ≡ b
injective logs pairs place old new is a b are one other e =
    same_end logs pairs (is.number b) place a b are (subst (λ (n : ℕ). Has pairs n (end_in place a)) e (is.of_pairs a one)) (is.of_pairs b other)

-- ---- the frames of a connection

-- a record of the list is on this connection
Occurs : ℕ → List Body → Type 0
Occurs connection records = 0 < length (filter_map (frame_sent connection) records) + length (filter_map (frame_received connection) records)

more_length : {Y : Type 0} (o : Option Y) (ys : List Y) → length ys ≤ length (cons_option o ys)
more_length None ys = omega arith
more_length (Some y) ys = omega arith

occurs_later : (d : ℕ) (b : Body) (rest : List Body) → Occurs d rest → Occurs d (b ∷ rest)
unfolding Occurs
occurs_later d b rest is = omega (arith, is, more_length (frame_sent d b) (filter_map (frame_sent d) rest), more_length (frame_received d b) (filter_map (frame_received d) rest))

cons_length : {Y : Type 0} (o : Option Y) (y : Y) (ys : List Y) → o ≡ Some y → 0 < length (cons_option o ys)
cons_length o y ys e = subst (λ p. 0 < length (cons_option p ys)) (sym e) (omega arith)

if_same : (d : ℕ) (frame : List ℕ) → (if d == d then Some frame else None) ≡ Some frame
if_same d frame = ap (λ t. if t then Some frame else None) (eq-eqb d d refl)

occurs_sent : (d call : ℕ) (references frame : List ℕ) (rest : List Body) → Occurs d (Send d call references frame ∷ rest)
unfolding Occurs
occurs_sent d call references frame rest = omega (arith, cons_length (frame_sent d (Send d call references frame)) frame (filter_map (frame_sent d) rest) (if_same d frame))

occurs_received : (d call : ℕ) (references frame : List ℕ) (rest : List Body) → Occurs d (Receive d call references frame ∷ rest)
unfolding Occurs
occurs_received d call references frame rest = omega (arith, cons_length (frame_received d (Receive d call references frame)) frame (filter_map (frame_received d) rest) (if_same d frame))

-- a number tells a connection from those that occur
Tells : (ℕ → ℕ) → ℕ → List Body → Type 0
Tells number c records = (d : ℕ) → Occurs d records → number d ≡ number c → d ≡ c

same_test : (number : ℕ → ℕ) (c d : ℕ) → (number d ≡ number c → d ≡ c) → (number d == number c) ≡ (d == c)
same_test number c d only = by (cases_eq d c) where
  by : (d ≡ c) ⊎ (d ≡ c → ⊥) → (number d == number c) ≡ (d == c)
  by (inl e) = eq-eqb (number d) (number c) (ap number e) ∙ sym (eq-eqb d c e)
  by (inr apart) = ne_eqb (number d) (number c) (λ e. apart (only e)) ∙ sym (ne_eqb d c apart)

sent_same : (number : ℕ → ℕ) (c : ℕ) (b : Body) (rest : List Body) → Tells number c (b ∷ rest) → frame_sent (number c) (renumbered_body number b) ≡ frame_sent c b
unfolding Tells
sent_same number c (Send d call references frame) rest tells = ap (λ t. if t then Some frame else None) (same_test number c d (tells d (occurs_sent d call references frame rest)))
sent_same number c (Receive d call references frame) rest tells = refl
sent_same number c _ rest tells = refl

received_same : (number : ℕ → ℕ) (c : ℕ) (b : Body) (rest : List Body) → Tells number c (b ∷ rest) → frame_received (number c) (renumbered_body number b) ≡ frame_received c b
unfolding Tells
received_same number c (Receive d call references frame) rest tells = ap (λ t. if t then Some frame else None) (same_test number c d (tells d (occurs_received d call references frame rest)))
received_same number c (Send d call references frame) rest tells = refl
received_same number c _ rest tells = refl

sent_kept : (number : ℕ → ℕ) (c : ℕ) (records : List Body) → Tells number c records → filter_map (frame_sent (number c)) (map (renumbered_body number) records) ≡ filter_map (frame_sent c) records
unfolding Tells
sent_kept number c [] tells = refl
sent_kept number c (b ∷ rest) tells =
    ap₂ (λ (o : Option (List ℕ)) (l : List (List ℕ)). cons_option o l) (sent_same number c b rest tells) (sent_kept number c rest (λ d is. tells d (occurs_later d b rest is)))

received_kept : (number : ℕ → ℕ) (c : ℕ) (records : List Body) → Tells number c records → filter_map (frame_received (number c)) (map (renumbered_body number) records) ≡ filter_map (frame_received c) records
unfolding Tells
received_kept number c [] tells = refl
received_kept number c (b ∷ rest) tells =
    ap₂ (λ (o : Option (List ℕ)) (l : List (List ℕ)). cons_option o l) (received_same number c b rest tells) (received_kept number c rest (λ d is. tells d (occurs_later d b rest is)))

-- ---- the links of the logs that are made

-- at an end of the pair of this number the new log has what the old one has
record IsKept (logs : List Log) (number : ℕ) (end : LogEnd) (new : Log) : Type 0 where
  pub sent : frames_sent number new ≡ sent_at logs end
  pub received : frames_received number new ≡ received_at logs end

kept_at : (logs : List Log) (pairs : List EndPair) (made : List Log) (number : ℕ) (end : LogEnd) (new : Log) → ArePairs logs pairs → AreRenumbered logs pairs made → Has pairs number end → IsEnd logs end → slice_get made end.log ≡ Some new → IsKept logs number end new
unfolding Tells Occurs
kept_at logs pairs made number end new are renumbered has there at =
    let none : Log = record { version = written_version; vat = 0; records = [] } in
    let old : Log = log_at logs end.log in
    let old_there : slice_get logs end.log ≡ Some old = slice_get-get_or logs end.log none (of_a_log logs end there) in
    let is = renumbered.each end.log old new old_there at in
    let its : is.number end.connection ≡ number = are.once (is.number end.connection) number end (is.of_pairs end.connection there) has in
    let tells : Tells is.number end.connection old.records = λ d occurs e. injective logs pairs end.log old new is d end.connection are occurs there e in
    record {
      sent = ap (λ n. frames_sent n new) (sym its) ∙ ap (λ (log : Log). frames_sent (is.number end.connection) log) is.same ∙ sent_kept is.number end.connection old.records tells;
      received = ap (λ n. frames_received n new) (sym its) ∙ ap (λ (log : Log). frames_received (is.number end.connection) log) is.same ∙ received_kept is.number end.connection old.records tells;
    }

pub good_links : (logs : List Log) (pairs : List EndPair) (made : List Log) (number : ℕ) (pair : EndPair) (one other : Log) → IsJoined logs pairs → AreRenumbered logs pairs made → slice_get pairs number ≡ Some pair → slice_get made pair.first.log ≡ Some one → slice_get made pair.second.log ≡ Some other
    → IsPrefix (frames_received number one) (frames_sent number other) × IsPrefix (frames_received number other) (frames_sent number one)
good_links logs pairs made number pair one other joined renumbered at a b =
    let fits = joined.are.fit number pair at in
    let first = kept_at logs pairs made number pair.first one joined.are renumbered (record { pair = pair; there = at; ends = inl refl }) (fits_end logs pair.first pair.second fits) a in
    let second = kept_at logs pairs made number pair.second other joined.are renumbered (record { pair = pair; there = at; ends = inr refl }) (fits_end logs pair.second pair.first (same_symmetric logs pair.first pair.second fits)) b in
    ((fits.at_first.0, second.sent ∙ fits.at_first.1 ∙ ap (λ l. l ++ fits.at_first.0) (sym first.received)), (fits.at_second.0, first.sent ∙ fits.at_second.1 ∙ ap (λ l. l ++ fits.at_second.0) (sym second.received)))
