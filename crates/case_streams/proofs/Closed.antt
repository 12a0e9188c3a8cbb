-- Logs whose readers are closed one after another.
use Rattle.std.proofs.Common.{◌≡◌, ℕ, ◌+◌, ◌≤◌, Bool, true, false, zero, suc, List, [], ◌∷◌, ◌++◌, ◌<◌, ◌⊎◌, inl, inr, length, map, drop, take, get_or, String, Global, string_bytes, Option, Some, None, Result, Ok, Err, refl, sym, ap, subst, ◌∙◌, arith, append_assoc, append-nil}
use Rattle.std.specs.Prelude.{slice_get, IfSome, IsSomeAnd, MatchOption}
use Rattle.vat_log.specs.Log.{Log}
use Rattle.vat_log.specs.Reading.{log_of}
use Rattle.vat_log.specs.Streams.{NoLogBegins, StreamStopsBy}
use Rattle.byte_pieces.specs.Coming.{CameSoFar, MayBeAll}
use Rattle.vat_log.specs.declared.read_fault.ReadFault.{ReadFault}
use Rattle.vat_log.specs.declared.read_fault.ReadFault.TheVariants as read
use Rattle.case_files.specs.CaseFaults.{of_order, case_fault_of_source}
use Rattle.case_files.specs.CaseReading.{After, Done, LogComes, LogsCome, NamedOrderComes, Reads, with_fault}
use Rattle.case_files.specs.declared.case_fault.CaseFault.{CaseFault}
use Rattle.case_files.specs.declared.case_fault.CaseFault.TheVariants.{CannotRead, Order as OrderFault, OutOfMemory}
use Rattle.merge_order.specs.declared.error.OrderError.{OrderError}
use Rattle.merge_order.specs.declared.error.OrderError.TheVariants as order
use Rattle.case_streams.specs.declared.opening.OrderFault.{OrderFault as FileFault}
use Rattle.case_streams.specs.declared.opening.OrderFault.TheVariants.{Bad}
use Rattle.case_files.specs.declared.source.SourceError.{SourceError}
use Rattle.case_files.specs.declared.source.SourceError.TheVariants as source
use Rattle.log_lane.specs.Lanes.{ReadAhead}
use Rattle.stream_audit.specs.Streamed.{AreReadWhole, CameToFault, CameWhole}
use Rattle.case_streams.specs.Glue.{AreClosedUpTo, AreOpen, IsFaultOfAll, IsOpenOrder, IsOrderOf, before}
use Rattle.case_streams.specs.declared.opening.OpenLogs.{OpenLogs}
use Rattle.case_streams.specs.declared.opening.OpenOrder.{OpenOrder}

pub none_closed : {S : Type 0} (gives : Reads S) (names : List (List ℕ)) (old : S) (logs : List Log) → AreClosedUpTo gives names 0 (take 0 logs) old old
none_closed gives names old logs (Ok rest) new come = come
none_closed gives names old logs (Err fault) new come = come

next_name : (names : List (List ℕ)) (i : ℕ) (name : List ℕ) → slice_get names i ≡ Some name → drop i names ≡ name ∷ drop (i + 1) names
next_name [] i name is = absurd (let no : ⊥ = cc in no)
next_name (x ∷ names) zero name is = ap (λ n. n ∷ names) (some_name x name is)
  where
    some_name : (a b : List ℕ) → ◌≡◌ {A = Option (List ℕ)} (Some a) (Some b) → a ≡ b
    some_name a b e = cc
next_name (x ∷ names) (suc i) name is = let e : suc i + 1 ≡ suc (i + 1) = omega arith in rw e (next_name names i name is)

behind : {S : Type 0} (log : Log) (rest : Result (List Log) CaseFault) (new : S) → After {S = S} rest (λ logs. Done (log ∷ logs)) new (before (log ∷ []) rest) new
behind log (Ok rest) new = (refl, refl)
behind log (Err fault) new = (refl, refl)

joined : (logs : List Log) (log : Log) (rest : Result (List Log) CaseFault) → before logs (before (log ∷ []) rest) ≡ before (logs ++ log ∷ []) rest
joined logs log (Ok rest) = ap (λ ls. Ok ls) (sym (append_assoc logs (log ∷ []) rest))
joined logs log (Err fault) = refl

take_one_more : (logs : List Log) (i : ℕ) (log : Log) → slice_get logs i ≡ Some log → take (i + 1) logs ≡ take i logs ++ log ∷ []
take_one_more [] i log is = absurd (let no : ⊥ = cc in no)
take_one_more (x ∷ logs) zero log is = ap (λ (l : Log). l ∷ []) (some_log x log is)
  where
    some_log : (a b : Log) → ◌≡◌ {A = Option Log} (Some a) (Some b) → a ≡ b
    some_log a b e = cc
take_one_more (x ∷ logs) (suc i) log is = let e : suc i + 1 ≡ suc (i + 1) = omega arith in rw e (ap (λ (ls : List Log). x ∷ ls) (take_one_more logs i log is))

pub one_closed : {S : Type 0} (gives : Reads S) (names : List (List ℕ)) (old between now : S) (i : ℕ) (name : List ℕ) (logs : List Log) (log : Log) → slice_get names i ≡ Some name → slice_get logs i ≡ Some log
    → AreClosedUpTo gives names i (take i logs) old between → LogComes gives name between (Ok log) now → AreClosedUpTo gives names (i + 1) (take (i + 1) logs) old now
one_closed gives names old between now i name logs log here there came comes rest new come =
    let next : LogsCome gives (drop i names) between (before (log ∷ []) rest) new = rw (next_name names i name here) (Ok log, (now, (comes, (rest, (new, (come, behind log rest new)))))) in
    subst (λ answer. LogsCome gives names old answer new) (joined (take i logs) log rest ∙ ap (λ (ls : List Log). before ls rest) (sym (take_one_more logs i log there))) (came (before (log ∷ []) rest) new next)

pub one_fails : {S : Type 0} (gives : Reads S) (names : List (List ℕ)) (old between now : S) (i : ℕ) (name : List ℕ) (logs : List Log) (fault : CaseFault) → slice_get names i ≡ Some name
    → AreClosedUpTo gives names i logs old between → LogComes gives name between (Err fault) now → LogsCome gives names old (Err fault) now
one_fails gives names old between now i name logs fault here came comes =
    let next : LogsCome gives (drop i names) between (Err fault) now = rw (next_name names i name here) (Err fault, (now, (comes, (refl, refl)))) in
    came (Err fault) now next

none_left : (names : List (List ℕ)) (i : ℕ) → length names ≤ i → drop i names ≡ []
none_left [] zero h = refl
none_left [] (suc i) h = refl
none_left (x ∷ names) zero h = absurd (omega (arith, h))
none_left (x ∷ names) (suc i) h = none_left names i (omega (arith, h))

pub all_closed : {S : Type 0} (gives : Reads S) (names : List (List ℕ)) (old now : S) (i : ℕ) (logs : List Log) → length names ≤ i → AreClosedUpTo gives names i logs old now → LogsCome gives names old (Ok logs) now
all_closed gives names old now i logs h came =
    let last : LogsCome gives (drop i names) now (Ok []) now = rw (none_left names i h) (refl, refl) in
    subst (λ (ls : List Log). LogsCome gives names old (Ok ls) now) (append-nil logs) (came (Ok []) now last)

-- ---- lanes that came whole

pub whole_at : (lanes : List (Option ReadAhead)) (logs : List Log) (i : ℕ) (lane : Option ReadAhead) → AreReadWhole lanes logs → slice_get lanes i ≡ Some lane → (log : Log) × (slice_get logs i ≡ Some log) × CameWhole lane log
whole_at [] [] i lane whole is = absurd (let no : ⊥ = cc in no)
whole_at [] (log ∷ logs) i lane whole is = absurd whole
whole_at (l ∷ lanes) [] i lane whole is = absurd whole
whole_at (l ∷ lanes) (log ∷ logs) zero lane whole is = (log, refl, subst (λ (o : Option ReadAhead). CameWhole o log) (some_lane l lane is) whole.0)
  where
    some_lane : (a b : Option ReadAhead) → ◌≡◌ {A = Option (Option ReadAhead)} (Some a) (Some b) → a ≡ b
    some_lane a b e = cc
whole_at (l ∷ lanes) (log ∷ logs) (suc i) lane whole is = whole_at lanes logs i lane whole.1 is

pub as_many : (lanes : List (Option ReadAhead)) (logs : List Log) → AreReadWhole lanes logs → length logs ≡ length lanes
as_many [] [] whole = refl
as_many [] (log ∷ logs) whole = absurd whole
as_many (l ∷ lanes) [] whole = absurd whole
as_many (l ∷ lanes) (log ∷ logs) whole = ap (λ n. suc n) (as_many lanes logs whole.1)

-- ---- names of files

pub name_at : (names : List (String Global)) (i : ℕ) (name : String Global) → i < length names → name ≡ get_or names i name → slice_get (map string_bytes names) i ≡ Some (string_bytes name)
name_at [] i name h is = absurd (let no : ⊥ = omega (arith, h) in no)
name_at (x ∷ names) zero name h is = ap (λ (n : String Global). Some (string_bytes n)) (sym is)
name_at (x ∷ names) (suc i) name h is = name_at names i name (omega (arith, h)) is

-- the log behind those that have headers has none
pub headless_fails : {S : Type 0} (gives : Reads S) (names : List (List ℕ)) (i : ℕ) (name : List ℕ) (old new : S) (fault : CaseFault) → slice_get names i ≡ Some name → (fault ≡ OutOfMemory) ⊎ LogComes gives name old (Err fault) new
    → (fault ≡ OutOfMemory) ⊎ LogsCome gives (drop i names) old (Err fault) new
headless_fails gives names i name old new fault here (inl is) = inl is
headless_fails gives names i name old new fault here (inr comes) = inr (rw (next_name names i name here) (Err fault, (new, (comes, (refl, refl)))))

-- there is a name for it
pub named : {R : Type 0} (so_far : R → CameSoFar) (count : ℕ) (logs : OpenLogs R) (bad : ReadFault × R) → AreOpen so_far count logs → logs.headless ≡ Some bad → length logs.lanes.items < count
named {R = R} so_far count logs bad is has = (subst (λ (o : Option (ReadFault × R)). MatchOption o (length logs.lanes.items ≡ count) (λ b. (length logs.lanes.items < count) × NoLogBegins b.0 (so_far b.1))) has is).0

pub item_at : {A : Type 0} (xs : List A) (i : ℕ) (x : A) → i < length xs → x ≡ get_or xs i x → slice_get xs i ≡ Some x
item_at [] i x h is = absurd (let no : ⊥ = omega (arith, h) in no)
item_at (y ∷ xs) zero x h is = ap Some (sym is)
item_at (y ∷ xs) (suc i) x h is = item_at xs i x (omega (arith, h)) is

-- what the reader of a log has that came whole
pub whole_lane : (lane : Option ReadAhead) (log : Log) (came : CameSoFar) → CameWhole lane log → IfSome lane (λ l. came ≡ l.read.came) → (came.is_over ≡ true) × (log_of came.bytes ≡ Ok log)
whole_lane lane log came whole has =
    let so : came ≡ whole.read.read.came = subst (λ (o : Option ReadAhead). IfSome o (λ l. came ≡ l.read.came)) whole.there has in
    (ap (λ (c : CameSoFar). c.is_over) so ∙ whole.over, ap (λ (c : CameSoFar). log_of c.bytes) so ∙ whole.spelled)

-- ---- the order

module _ {S : Type 0} (gives : Reads S) (old new : S) (name : List ℕ) (came : CameSoFar) where
  closed_whole : (failed : Bool) → (failed ≡ false) × ((all : List ℕ) × (MayBeAll came.bytes came.is_over all × gives old name (Ok all) new)) → came.is_over ≡ true → gives old name (Ok came.bytes) new
  closed_whole failed closed over =
      let may = closed.1.1.0 in
      let same : closed.1.0 ≡ came.bytes = may.parts ∙ ap (λ (m : List ℕ). came.bytes ++ m) (may.over over) ∙ append-nil came.bytes in
      subst (λ (all : List ℕ). gives old name (Ok all) new) same closed.1.1.1

  pub unread_order : (fault : SourceError) → gives old name (Err fault) new → NamedOrderComes gives (Some name) old (Err (case_fault_of_source fault)) new
  unread_order source.CannotRead given = (Err CannotRead, (new, ((Err source.CannotRead, (given, refl)), (refl, refl))))
  unread_order source.OutOfMemory given = (Err OutOfMemory, (new, ((Err source.OutOfMemory, (given, tt)), (refl, refl))))

  pub read_order : (given : List ℕ) (failed : Bool) → (failed ≡ false) × ((all : List ℕ) × (MayBeAll came.bytes came.is_over all × gives old name (Ok all) new)) → IsOrderOf (Ok given) came
      → NamedOrderComes gives (Some name) old (Ok (Some given)) new
  read_order given failed closed is = (Ok given, (new, ((Ok came.bytes, (closed_whole failed closed is.0, ap (with_fault of_order) is.1)), (refl, refl))))

  pub bad_order : (fault : OrderError) (failed : Bool) → (failed ≡ false) × ((all : List ℕ) × (MayBeAll came.bytes came.is_over all × gives old name (Ok all) new)) → IsOrderOf (Err (Bad fault)) came
      → NamedOrderComes gives (Some name) old (Err (of_order fault)) new
  bad_order order.OutOfMemory failed closed is = (Err OutOfMemory, (new, ((Ok closed.1.0, (closed.1.1.1, tt)), (refl, refl))))
  bad_order order.BadMagic failed closed is = (Err (OrderFault order.BadMagic), (new, ((Ok came.bytes, (closed_whole failed closed is.0, ap (with_fault of_order) is.1)), (refl, refl))))
  bad_order (order.Short at) failed closed is = (Err (OrderFault (order.Short at)), (new, ((Ok came.bytes, (closed_whole failed closed is.0, ap (with_fault of_order) is.1)), (refl, refl))))

-- what is known of the file of an order that has a fault, and of one that has none
pub fault_of_file : {R : Type 0} (so_far : R → CameSoFar) (name : List ℕ) (given : Option (List ℕ)) (file : OpenOrder R) (fault : FileFault) → IsOpenOrder so_far (Some name) given (Some file) → file.fault ≡ Some fault
    → IsOrderOf (Err fault) (so_far file.reader)
fault_of_file so_far name (Some given) file fault so is = absurd (let both = sym is ∙ so.0 in let no : ⊥ = cc in no)
fault_of_file so_far name None file fault so is = subst (λ (o : Option FileFault). IsSomeAnd o (λ f. IsOrderOf (Err f) (so_far file.reader))) is so

pub order_of_file : {R : Type 0} (so_far : R → CameSoFar) (name : List ℕ) (given : Option (List ℕ)) (file : OpenOrder R) → IsOpenOrder so_far (Some name) given (Some file) → file.fault ≡ None
    → (one : List ℕ) × (given ≡ Some one) × IsOrderOf (Ok one) (so_far file.reader)
order_of_file so_far name (Some given) file so none = (given, refl, so.1)
order_of_file so_far name None file so none = absurd (subst (λ (o : Option FileFault). IsSomeAnd o (λ f. IsOrderOf (Err f) (so_far file.reader))) none so)

-- ---- a log that isn't whole

pub fault_of_all : (fault : ReadFault) (lane : Option ReadAhead) (came : CameSoFar) → CameToFault lane fault → IfSome lane (λ l. came ≡ l.read.came) → IsFaultOfAll fault came
fault_of_all fault lane came to has =
    let so : came ≡ to.read.read.came = subst (λ (o : Option ReadAhead). IfSome o (λ l. came ≡ l.read.came)) to.there has in
    subst (IsFaultOfAll fault) (sym so) (stops fault to.stops)
  where
    stops : (fault : ReadFault) → StreamStopsBy fault to.read.read → IsFaultOfAll fault to.read.read.came
    stops (read.Bad e) stop = λ all may. (stop all may).0
    stops read.CannotRead stop = stop
    stops read.OutOfMemory stop = tt

pub own_fault : (lanes : List (Option ReadAhead)) (place : ℕ) (lane : Option ReadAhead) (fault : ReadFault) → IsSomeAnd (slice_get lanes place) (λ l. CameToFault l fault) → slice_get lanes place ≡ Some lane → CameToFault lane fault
own_fault lanes place lane fault own is = subst (λ (o : Option (Option ReadAhead)). IsSomeAnd o (λ l. CameToFault l fault)) is own

pub first_fails : {S : Type 0} (gives : Reads S) (names : List (List ℕ)) (old between now : S) (i : ℕ) (name : List ℕ) (logs : List Log) (fault : CaseFault) → slice_get names i ≡ Some name
    → AreClosedUpTo gives names i logs old between → (fault ≡ OutOfMemory) ⊎ LogComes gives name between (Err fault) now → (fault ≡ OutOfMemory) ⊎ LogsCome gives names old (Err fault) now
first_fails gives names old between now i name logs fault here came (inl is) = inl is
first_fails gives names old between now i name logs fault here came (inr comes) = inr (one_fails gives names old between now i name logs fault here came comes)

-- no log lacks its header
pub all_named : {R : Type 0} (so_far : R → CameSoFar) (count : ℕ) (logs : OpenLogs R) → AreOpen so_far count logs → logs.headless ≡ None → length logs.lanes.items ≡ count
all_named {R = R} so_far count logs has none = subst (λ (o : Option (ReadFault × R)). MatchOption o (length logs.lanes.items ≡ count) (λ b. (length logs.lanes.items < count) × NoLogBegins b.0 (so_far b.1))) none has

-- the fault of a log that has no header
pub headless_fault : (fault : ReadFault) (came : CameSoFar) → NoLogBegins fault came → IsFaultOfAll fault came
headless_fault (read.Bad e) came none = λ all may. (none all may).1
headless_fault read.CannotRead came none = none
headless_fault read.OutOfMemory came none = tt

pub none_begins : {R : Type 0} (so_far : R → CameSoFar) (count : ℕ) (logs : OpenLogs R) (bad : ReadFault × R) → AreOpen so_far count logs → logs.headless ≡ Some bad → IsFaultOfAll bad.0 (so_far bad.1)
none_begins {R = R} so_far count logs bad is has = headless_fault bad.0 (so_far bad.1) (subst (λ (o : Option (ReadFault × R)). MatchOption o (length logs.lanes.items ≡ count) (λ b. (length logs.lanes.items < count) × NoLogBegins b.0 (so_far b.1))) has is).1

-- the same logs, read on
pub open_again : {R : Type 0} (so_far : R → CameSoFar) (count : ℕ) (logs after : OpenLogs R) → after.headless ≡ logs.headless → length after.lanes.items ≡ length logs.lanes.items → AreOpen so_far count logs → AreOpen so_far count after
open_again {R = R} so_far count logs after same long has =
    subst (λ (o : Option (ReadFault × R)). MatchOption o (length after.lanes.items ≡ count) (λ b. (length after.lanes.items < count) × NoLogBegins b.0 (so_far b.1))) (sym same) (go logs.headless has)
  where
    go : (o : Option (ReadFault × R)) → MatchOption o (length logs.lanes.items ≡ count) (λ b. (length logs.lanes.items < count) × NoLogBegins b.0 (so_far b.1))
        → MatchOption o (length after.lanes.items ≡ count) (λ b. (length after.lanes.items < count) × NoLogBegins b.0 (so_far b.1))
    go None all = long ∙ all
    go (Some bad) (lt, none) = (omega (arith, long, lt), none)
