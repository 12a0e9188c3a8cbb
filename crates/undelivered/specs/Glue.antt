-- For the code's contracts, and no part of the meaning: the calls that wait for their delivery, and what is noted of them.
use Rattle.std.specs.Prelude.{◌≡◌, ℕ, ◌<◌, List, [], ◌∷◌, Bool, false, not, Option, Some, None, ◌==◌, ◌&&◌, nat_lt, length, if◌then◌else◌}
use Rattle.std.specs.BTreeMap.{BTreeMap, get}
use Rattle.std.specs.List.{list_any}
use Rattle.std.specs.Option.{option_map}
use Rattle.std.specs.Ordering.{nat_cmp, ordering_then}
use Rattle.std.specs.declared.cmp.Ordering.{Ordering}
use Rattle.undelivered.specs.declared.moment.Moment.TheVariants.{Made, Delivered}
use Rattle.undelivered.specs.declared.wait_tables.WaitTables.{WaitTables}
use Rattle.undelivered.specs.Places.{lesser, least_place}
use Rattle.undelivered.specs.Order.{PastCalls, tells_delivery, AreOnce, places_of, early}

-- ---- turns

-- the reference of a call, and its turn: how many moments stand before its making
abbrev pub turn_of : ℕ → PastCalls → Option (ℕ × ℕ)
turn_of c [] = None
turn_of c (Made n reference ∷ before) = if n == c then Some (reference, length before) else turn_of c before
turn_of c (Delivered n place ∷ before) = turn_of c before

-- the call that was made through a reference at a turn
abbrev pub call_made_at : ℕ → ℕ → PastCalls → Option ℕ
call_made_at r t [] = None
call_made_at r t (Made n reference ∷ before) = if (reference == r) && (length before == t) then Some n else call_made_at r t before
call_made_at r t (Delivered n place ∷ before) = call_made_at r t before

-- a turn of this reference after this one
abbrev pub is_behind : ℕ → ℕ → Option (ℕ × ℕ) → Bool
is_behind r t None = false
is_behind r t (Some made) = (made.0 == r) && nat_lt t made.1

-- where calls are delivered that were made through a reference after a turn
abbrev pub behind : ℕ → ℕ → PastCalls → List (ℕ × ℕ)
behind r t past = places_of (λ c. is_behind r t (turn_of c past)) past

-- a call that waits
abbrev pub is_waiting : PastCalls → Option ℕ → Bool
is_waiting past None = false
is_waiting past (Some c) = not (list_any (tells_delivery c) past)

-- ---- tables

-- by reference, then by turn
abbrev pub key_cmp : ℕ × ℕ → ℕ × ℕ → Ordering
key_cmp x y = ordering_then (nat_cmp x.0 y.0) (nat_cmp x.1 y.1)

abbrev pub Waits : Type 0
Waits = BTreeMap (ℕ × ℕ) (Option (ℕ × ℕ))

-- what a table has of a call, and of a turn
abbrev pub made_of : WaitTables → ℕ → Option (ℕ × ℕ)
made_of tables c = get nat_cmp tables.turns c

abbrev pub wait_of : WaitTables → ℕ → ℕ → Option (Option (ℕ × ℕ))
wait_of tables r t = get key_cmp tables.waiting (r, t)

-- this is the last turn of the reference before this one that has something; or none has
abbrev pub IsLastBefore : Waits → ℕ → ℕ → Option (ℕ × Option (ℕ × ℕ)) → Type 0
IsLastBefore waits r t None = (q : ℕ) → q < t → get key_cmp waits (r, q) ≡ None
IsLastBefore waits r t (Some last) =
    (last.0 < t) × (get key_cmp waits (r, last.0) ≡ Some last.1) × ((q : ℕ) → last.0 < q → q < t → get key_cmp waits (r, q) ≡ None)

-- of two calls through one reference, no greater place is noted of the one made first
abbrev pub AreWaitsRising : Waits → Type 0
AreWaitsRising waits = (r a b : ℕ) (u w : Option (ℕ × ℕ)) → a < b → get key_cmp waits (r, a) ≡ Some u → get key_cmp waits (r, b) ≡ Some w → lesser u w ≡ u

-- the tables say the same of each call
pub record AreSameTables (old new : WaitTables) : Type 0 where
  pub turns : (c : ℕ) → made_of new c ≡ made_of old c
  pub waiting : (r t : ℕ) → wait_of new r t ≡ wait_of old r t
  pub fault : new.fault ≡ old.fault

-- nothing is noted
pub record AreEmpty (tables : WaitTables) : Type 0 where
  pub turns : (c : ℕ) → made_of tables c ≡ None
  pub waiting : (r t : ℕ) → wait_of tables r t ≡ None
  pub fault : tables.fault ≡ None

-- a call was made through this reference, at this turn
pub record IsMade (call reference turn : ℕ) (old new : WaitTables) : Type 0 where
  pub turns : (c : ℕ) → made_of new c ≡ (if c == call then Some (reference, turn) else made_of old c)
  pub waiting : (r t : ℕ) → wait_of new r t ≡ (if (r == reference) && (t == turn) then Some None else wait_of old r t)
  pub fault : new.fault ≡ old.fault

-- what is noted of a turn, once a call of that reference and turn is delivered at this place
abbrev pub lowered : ℕ → ℕ → ℕ × ℕ → ℕ → ℕ → Option (Option (ℕ × ℕ)) → Option (Option (ℕ × ℕ))
lowered reference turn place r t known =
    if (r == reference) && (t == turn) then None
    else (if (r == reference) && nat_lt t turn then option_map (λ until. lesser until (Some place)) known else known)

-- a call was delivered at this place, which had this reference and turn, and of which this was noted
pub record IsTaken (call : ℕ) (place : ℕ × ℕ) (reference turn : ℕ) (until : Option (ℕ × ℕ)) (old new : WaitTables) : Type 0 where
  pub turns : (c : ℕ) → made_of new c ≡ (if c == call then None else made_of old c)
  pub waiting : AreWaitsRising old.waiting → (r t : ℕ) → wait_of new r t ≡ lowered reference turn place r t (wait_of old r t)
  pub fault : new.fault ≡ lesser old.fault until

-- a call was delivered at this place, if it waited
abbrev pub IsDelivered : ℕ → ℕ × ℕ → WaitTables → WaitTables → Type 0
IsDelivered call place old new = (reference turn : ℕ) (until : Option (ℕ × ℕ)) → made_of old call ≡ Some (reference, turn) → wait_of old reference turn ≡ Some until
    → IsTaken call place reference turn until old new

-- the tables have just the calls that wait, and the least place where one was delivered too early
pub record AreExact (past : PastCalls) (tables : WaitTables) : Type 0 where
  pub turns : (c : ℕ) → made_of tables c ≡ (if list_any (tells_delivery c) past then None else turn_of c past)
  pub waiting : (r t : ℕ) → wait_of tables r t ≡ (if is_waiting past (call_made_at r t past) then Some (least_place (behind r t past)) else None)
  pub fault : tables.fault ≡ least_place (early past)

-- they are tables of this past, where each call is made and delivered once
pub record AreTables (past : PastCalls) (count : ℕ) (tables : WaitTables) : Type 0 where
  pub counted : length past ≡ count
  pub exact : AreOnce past → AreExact past tables
