-- Reading many of a kind one after the other, as a loop does.
use Rattle.std.proofs.Common.{◌≡◌, ℕ, zero, suc, true, ltb, ◌-◌, ◌+◌, ◌≤◌, ◌<◌, List, [], ◌∷◌, ◌++◌, length, get_or, take, All, Result, Ok, Err, refl, sym, ap, subst, ◌∙◌, append_assoc, arith}
use Rattle.std.specs.List.{flat_map}
use Rattle.std.proofs.lemmas.List.{append-nil, length-append, take_more, flat_map_more}
use Rattle.std.proofs.lemmas.Bool.{lt-ltb, le-ltb}
use Rattle.std.proofs.lemmas.List.Elements.{All-push}
use Rattle.vat_log.specs.declared.error.LogError.{LogError}
use Rattle.vat_log.specs.declared.error.LogError.TheVariants.{BadMagic, Short, BadKind, ZeroNumber, TooLong, OutOfMemory}
use Rattle.vat_log.specs.declared.body.Body.{Body}
use Rattle.vat_log.specs.declared.spelling.kind.RecordKind.{RecordKind}
use Rattle.vat_log.specs.declared.version.LogVersion.{LogVersion}
use Rattle.vat_log.specs.Reading.{◌>>=◌, Fails, count_at, many_at, list_at, kind_at, fields_at, records_at}

-- a step that failed, whatever follows it
pub Fails-then : {A B : Type 0} (e : LogError) (read : Result A LogError) (f : A → Result B LogError) → Fails e read → Fails e (read >>= f)
Fails-then BadMagic read f h = rw h refl
Fails-then (Short at) read f h = rw h refl
Fails-then (BadKind at) read f h = rw h refl
Fails-then (ZeroNumber at) read f h = rw h refl
Fails-then TooLong read f h = rw h refl
Fails-then OutOfMemory read f h = tt

-- what was read before, and what is still read
abbrev pub with_front : {A : Type 0} → List A → Result (List A × ℕ) LogError → Result (List A × ℕ) LogError
with_front front read = read >>= λ x. Ok (front ++ x.0, x.1)

regroup : {A : Type 0} (front : List A) (x : A) (read : Result (List A × ℕ) LogError) → with_front front (read >>= λ y. Ok (x ∷ y.0, y.1)) ≡ with_front (front ++ x ∷ []) read
regroup front x (Ok y) = ap (λ xs. Ok (xs, y.1)) (simp append_assoc)
regroup front x (Err e) = refl

pub goes_on : {A : Type 0} (item : ℕ → Result (A × ℕ) LogError) (front : List A) (count i at : ℕ) (x : A) (after : ℕ) (total : Result (List A × ℕ) LogError) → i < count → item at ≡ Ok (x, after)
    → with_front front (many_at item (count - i) at) ≡ total → with_front (front ++ x ∷ []) (many_at item (count - (i + 1)) after) ≡ total
unfolding many_at
goes_on item front count i at x after total lt h so_far =
    let k : count - i ≡ suc (count - (i + 1)) = omega arith in
    let one : with_front front (many_at item (count - i) at) ≡ with_front (front ++ x ∷ []) (many_at item (count - (i + 1)) after) = rw (k, h) (regroup front x (many_at item (count - (i + 1)) after)) in
    sym one ∙ so_far

pub ends : {A : Type 0} (e : LogError) (item : ℕ → Result (A × ℕ) LogError) (front : List A) (count i at : ℕ) (total : Result (List A × ℕ) LogError) → i < count → Fails e (item at)
    → with_front front (many_at item (count - i) at) ≡ total → Fails e total
unfolding many_at
ends e item front count i at total lt h so_far =
    let k : count - i ≡ suc (count - (i + 1)) = omega arith in
    rw (← so_far, k) (Fails-then e _ _ (Fails-then e (item at) _ h))

pub is_done : {A : Type 0} (item : ℕ → Result (A × ℕ) LogError) (front : List A) (count i at : ℕ) (total : Result (List A × ℕ) LogError) → count ≤ i → with_front front (many_at item (count - i) at) ≡ total → total ≡ Ok (front, at)
unfolding many_at
is_done item front count i at total le so_far =
    let k : count - i ≡ 0 = omega arith in
    let one : with_front front (many_at item (count - i) at) ≡ Ok (front, at) = rw k (ap (λ xs. Ok (xs, at)) (append-nil front)) in
    sym so_far ∙ one

-- a list of one element is its count, and that element
pub is_one : {A : Type 0} (version : LogVersion) (item : ℕ → Result (A × ℕ) LogError) (bytes : List ℕ) (at count after : ℕ) (x : A) (end : ℕ) → count_at version bytes at ≡ Ok (count, after) → count ≡ 1
    → item after ≡ Ok (x, end) → list_at version item bytes at ≡ Ok (x ∷ [], end)
unfolding list_at many_at
is_one version item bytes at count after x end counted one found = rw (counted, one, found) refl

pub one_fails : {A : Type 0} (e : LogError) (version : LogVersion) (item : ℕ → Result (A × ℕ) LogError) (bytes : List ℕ) (at count after : ℕ) → count_at version bytes at ≡ Ok (count, after) → count ≡ 1
    → Fails e (item after) → Fails e (list_at version item bytes at)
unfolding list_at many_at
one_fails e version item bytes at count after counted one failed = rw (counted, one) (Fails-then e (item after) _ failed)

-- one element more than those before this one
pub taken : {X : Type 0} (xs : List X) (i : ℕ) (x : X) → i < length xs → x ≡ get_or xs i x → take (i + 1) xs ≡ take i xs ++ x ∷ []
taken xs i x lt is = take_more xs i x lt ∙ ap (λ y. take i xs ++ y ∷ []) (sym is)

-- what holds of each element before this one, and of this one
pub All-more : {X : Type 0} (P : X → Type 0) (xs : List X) (i : ℕ) (x : X) → i < length xs → x ≡ get_or xs i x → All P (take i xs) → P x → All P (take (i + 1) xs)
All-more P xs i x lt is before here = subst (All P) (sym (taken xs i x lt is)) (All-push P (take i xs) x before here)

-- one more element was spelled
pub spelled_more : {X : Type 0} (f : X → List ℕ) (xs : List X) (i : ℕ) (x : X) (a b out more : List ℕ) → i < length xs → x ≡ get_or xs i x → out ≡ a ++ (b ++ flat_map f (take i xs)) → more ≡ out ++ f x
    → more ≡ a ++ (b ++ flat_map f (take (i + 1) xs))
spelled_more f xs i x a b out more lt is so_far step =
    step ∙ ap (λ o. o ++ f x) (so_far ∙ sym (append_assoc a b (flat_map f (take i xs)))) ∙ flat_map_more f (a ++ b) (take i xs) x
    ∙ append_assoc a b (flat_map f (take i xs ++ x ∷ [])) ∙ ap (λ ys. a ++ (b ++ flat_map f ys)) (sym (taken xs i x lt is))

-- one more number was spelled
pub spelled_next : (f : ℕ → List ℕ) (xs : List ℕ) (i : ℕ) (a b out more : List ℕ) → i < length xs → out ≡ a ++ (b ++ flat_map f (take i xs)) → more ≡ out ++ f (get_or xs i 0)
    → more ≡ a ++ (b ++ flat_map f (take (i + 1) xs))
spelled_next f xs i a b out more lt so_far step =
    step ∙ ap (λ o. o ++ f (get_or xs i 0)) (so_far ∙ sym (append_assoc a b (flat_map f (take i xs)))) ∙ flat_map_more f (a ++ b) (take i xs) (get_or xs i 0)
    ∙ append_assoc a b (flat_map f (take i xs ++ get_or xs i 0 ∷ [])) ∙ ap (λ ys. a ++ (b ++ flat_map f ys)) (sym (take_more xs i 0 lt))

-- the records that were read before, and those that are still read
abbrev pub with_records : List Body → Result (List Body) LogError → Result (List Body) LogError
with_records front read = read >>= λ others. Ok (front ++ others)

regroup_records : (front : List Body) (x : Body) (read : Result (List Body) LogError) → with_records front (read >>= λ others. Ok (x ∷ others)) ≡ with_records (front ++ x ∷ []) read
regroup_records front x (Ok xs) = ap (λ (ys : List Body). Ok ys) (simp append_assoc)
regroup_records front x (Err e) = refl

pub record_goes_on : (version : LogVersion) (bytes : List ℕ) (front : List Body) (limit at : ℕ) (kind : RecordKind) (x : Body) (after : ℕ) (total : Result (List Body) LogError) → at < length bytes → length front < limit
    → kind_at bytes at ≡ Ok kind → fields_at version kind bytes (at + 1) ≡ Ok (x, after)
    → with_records front (records_at version bytes (limit - length front) at) ≡ total → with_records (front ++ x ∷ []) (records_at version bytes (limit - length (front ++ x ∷ [])) after) ≡ total
unfolding records_at
record_goes_on version bytes front limit at kind x after total lt room k f so_far =
    let n : limit - length front ≡ suc (limit - length (front ++ x ∷ [])) = omega (arith, length-append front (x ∷ [])) in
    let test : ltb at (length bytes) ≡ true = lt-ltb _ _ lt in
    let one : with_records front (records_at version bytes (limit - length front) at) ≡ with_records (front ++ x ∷ []) (records_at version bytes (limit - length (front ++ x ∷ [])) after) =
    rw (n, test, k, f) (regroup_records front x (records_at version bytes (limit - length (front ++ x ∷ [])) after)) in
    sym one ∙ so_far

kind_stops : (version : LogVersion) (e : LogError) (bytes : List ℕ) (left at : ℕ) → at < length bytes → Fails e (kind_at bytes at) → Fails e (records_at version bytes left at)
unfolding records_at
kind_stops version e bytes zero at lt h = rw (lt-ltb _ _ lt) (Fails-then e (kind_at bytes at) _ h)
kind_stops version e bytes (suc left) at lt h = rw (lt-ltb _ _ lt) (Fails-then e (kind_at bytes at) _ h)

pub kind_ends : (version : LogVersion) (e : LogError) (bytes : List ℕ) (front : List Body) (limit at : ℕ) (total : Result (List Body) LogError) → at < length bytes → Fails e (kind_at bytes at)
    → with_records front (records_at version bytes (limit - length front) at) ≡ total → Fails e total
kind_ends version e bytes front limit at total lt h so_far = subst (Fails e) so_far (Fails-then e _ _ (kind_stops version e bytes (limit - length front) at lt h))

pub record_ends : (version : LogVersion) (e : LogError) (bytes : List ℕ) (front : List Body) (limit at : ℕ) (kind : RecordKind) (total : Result (List Body) LogError) → at < length bytes → length front < limit
    → kind_at bytes at ≡ Ok kind → Fails e (fields_at version kind bytes (at + 1)) → with_records front (records_at version bytes (limit - length front) at) ≡ total → Fails e total
unfolding records_at
record_ends version e bytes front limit at kind total lt room k f so_far =
    let n : limit - length front ≡ suc (limit - (length front + 1)) = omega arith in
    let test : ltb at (length bytes) ≡ true = lt-ltb _ _ lt in
    subst (Fails e) so_far (rw (n, test, k) (Fails-then e _ _ (Fails-then e (fields_at version kind bytes (at + 1)) _ f)))

pub limit_ends : (version : LogVersion) (bytes : List ℕ) (front : List Body) (limit at : ℕ) (kind : RecordKind) (total : Result (List Body) LogError) → at < length bytes → limit ≤ length front
    → kind_at bytes at ≡ Ok kind → with_records front (records_at version bytes (limit - length front) at) ≡ total → total ≡ Err TooLong
unfolding records_at
limit_ends version bytes front limit at kind total lt full k so_far =
    let n : limit - length front ≡ 0 = omega arith in
    let test : ltb at (length bytes) ≡ true = lt-ltb _ _ lt in
    let one : with_records front (records_at version bytes (limit - length front) at) ≡ Err TooLong = rw (n, test, k) refl in
    sym so_far ∙ one

records_stop : (version : LogVersion) (bytes : List ℕ) (left at : ℕ) → length bytes ≤ at → records_at version bytes left at ≡ Ok []
unfolding records_at
records_stop version bytes zero at past = rw (le-ltb _ _ past) refl
records_stop version bytes (suc left) at past = rw (le-ltb _ _ past) refl

pub records_are_done : (version : LogVersion) (bytes : List ℕ) (front : List Body) (limit at : ℕ) (total : Result (List Body) LogError) → length bytes ≤ at
    → with_records front (records_at version bytes (limit - length front) at) ≡ total → total ≡ Ok front
records_are_done version bytes front limit at total past so_far =
    let one : with_records front (records_at version bytes (limit - length front) at) ≡ Ok front = rw (records_stop version bytes (limit - length front) at past) (ap (λ (xs : List Body). Ok xs) (append-nil front)) in
    sym so_far ∙ one
