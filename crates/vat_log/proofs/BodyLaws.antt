-- The fields of each kind of record are spelled as they are read, and read as they are spelled.
use Rattle.std.proofs.Common.{◌≡◌, ℕ, ◌+◌, ◌^◌, ◌<◌, ◌≤◌, List, [], ◌∷◌, ◌++◌, length, All, Result, Ok, refl, ap, subst, ◌∙◌, arith}
use Rattle.std.specs.Int.{w16, w32}
use Rattle.std.specs.List.{flat_map}
use Rattle.vat_log.specs.declared.body.Body.{Body}
use Rattle.vat_log.specs.declared.body.Body.TheVariants as body
use Rattle.vat_log.specs.declared.error.LogError.{LogError}
use Rattle.vat_log.specs.declared.spelling.kind.RecordKind.{RecordKind}
use Rattle.vat_log.specs.declared.spelling.kind.RecordKind.TheVariants.{Host, Vow, Fulfil, Break, Make, Field, Deliver, Answer, Fault, Send, Receive, AnswerBy}
use Rattle.vat_log.specs.declared.passage.Passage.{Passage}
use Rattle.vat_log.specs.declared.version.LogVersion.{LogVersion}
use Rattle.vat_log.specs.declared.version.LogVersion.TheVariants.{One, Two, Three}
use Rattle.vat_log.specs.Fits.{count_reach, IsCounted, IsWide, IsListed, Fits}
use Rattle.vat_log.specs.Log.{written_version}
use Rattle.vat_log.specs.Reading.{◌>>=◌, passage_at, host_at, vow_at, fulfil_at, break_at, make_at, field_at, deliver_at, answer_at, fault_at, send_at, receive_at, answer_by_at, fields_at}
use Rattle.vat_log.specs.Spelling.{count_width, kind_byte, passage_bytes, kind_in, fields_bytes, record_bytes}
use Rattle.vat_log.proofs.Spans.{IsBytes, ok_is, Spans, Spans-join, Spans-first, Spans-second, IsField, then_takes}
use Rattle.vat_log.proofs.FieldLaws.{IsNumber, IsList, IsFrame, u16_field, u32_field, u64_field, nonzero_field, path_field, references_field, results_field, frame_field}

-- what a record can say, with numbers and counts of the width of their fields
pub record FitsWide (version : LogVersion) (said : Body) : Type 0 where
  pub fits : Fits said
  pub wide : IsWide said
  pub listed : IsListed version said

-- ---- versions whose counts have 32 bits

not_16 : {A : Type 0} → w16 ≡ w32 → A
not_16 e = absurd (cc e)

reaches : (version : LogVersion) → count_width version ≡ w32 → count_reach version ≡ 2 ^ 32
reaches One wide = not_16 wide
reaches Two wide = refl
reaches Three wide = refl

-- such a version spells each count within the limit
pub listed_as_written : (version : LogVersion) → count_width version ≡ w32 → (said : Body) → IsCounted said → IsListed version said
listed_as_written version wide (body.Host reference object) h = tt
listed_as_written version wide (body.Vow reference) h = tt
listed_as_written version wide (body.Fulfil reference to) h = tt
listed_as_written version wide (body.Break reference) h = tt
listed_as_written version wide (body.Make call reference interface method) h = tt
listed_as_written version wide (body.Field reference call path) h = omega (arith, h, reaches version wide)
listed_as_written version wide (body.Deliver call object) h = tt
listed_as_written version wide (body.Answer call results) h = (omega (arith, h.0, reaches version wide), λ k d lt. omega (arith, h.1 k d lt, reaches version wide))
listed_as_written version wide (body.Fault call) h = tt
listed_as_written version wide (body.Send connection call references frame) h = omega (arith, h.0, reaches version wide)
listed_as_written version wide (body.Receive connection call references frame) h = omega (arith, h.0, reaches version wide)
listed_as_written version wide (body.AnswerBy call by) h = tt

same_fields : (said : Body) → fields_bytes Three said ≡ fields_bytes written_version said
same_fields (body.Host reference object) = refl
same_fields (body.Vow reference) = refl
same_fields (body.Fulfil reference to) = refl
same_fields (body.Break reference) = refl
same_fields (body.Make call reference interface method) = refl
same_fields (body.Field reference call path) = refl
same_fields (body.Deliver call object) = refl
same_fields (body.Answer call results) = refl
same_fields (body.Fault call) = refl
same_fields (body.Send connection call references frame) = refl
same_fields (body.Receive connection call references frame) = refl
same_fields (body.AnswerBy call by) = refl

same_records : (said : List Body) → flat_map (record_bytes Three) said ≡ flat_map (record_bytes written_version) said
same_records [] = refl
same_records (x ∷ xs) = ap (λ (fields : List ℕ). kind_byte (kind_in x) ∷ fields ++ flat_map (record_bytes Three) xs) (same_fields x) ∙ ap (λ (rest : List ℕ). record_bytes written_version x ++ rest) (same_records xs)

-- such versions spell a record alike
pub record_alike : (version : LogVersion) → count_width version ≡ w32 → (said : Body) → record_bytes version said ≡ record_bytes written_version said
record_alike One wide said = not_16 wide
record_alike Two wide said = refl
record_alike Three wide said = ap (λ (fields : List ℕ). kind_byte (kind_in said) ∷ fields) (same_fields said)

-- such versions spell records alike
pub records_alike : (version : LogVersion) → count_width version ≡ w32 → (said : List Body) → flat_map (record_bytes version) said ≡ flat_map (record_bytes written_version) said
records_alike One wide said = not_16 wide
records_alike Two wide said = refl
records_alike Three wide said = same_records said

-- ---- fields that follow one another

abbrev one_at : {A C : Type 0} → (ℕ → Result (A × ℕ) LogError) → (A → C) → ℕ → Result (C × ℕ) LogError
one_at r make at = r at >>= λ a. Ok (make a.0, a.1)

abbrev two_at : {A B C : Type 0} → (ℕ → Result (A × ℕ) LogError) → (ℕ → Result (B × ℕ) LogError) → (A → B → C) → ℕ → Result (C × ℕ) LogError
two_at r r' make at = r at >>= λ a. r' a.1 >>= λ b. Ok (make a.0 b.0, b.1)

abbrev three_at : {A B C D : Type 0} → (ℕ → Result (A × ℕ) LogError) → (ℕ → Result (B × ℕ) LogError) → (ℕ → Result (C × ℕ) LogError) → (A → B → C → D) → ℕ → Result (D × ℕ) LogError
three_at ra rb rc make at = ra at >>= λ a. rb a.1 >>= λ b. rc b.1 >>= λ c. Ok (make a.0 b.0 c.0, c.1)

abbrev four_at : {A B C D E : Type 0} → (ℕ → Result (A × ℕ) LogError) → (ℕ → Result (B × ℕ) LogError) → (ℕ → Result (C × ℕ) LogError) → (ℕ → Result (D × ℕ) LogError) → (A → B → C → D → E) → ℕ → Result (E × ℕ) LogError
four_at ra rb rc rd make at = ra at >>= λ a. rb a.1 >>= λ b. rc b.1 >>= λ c. rd c.1 >>= λ d. Ok (make a.0 b.0 c.0 d.0, d.1)

one_take : {A C : Type 0} {bytes : List ℕ} {r : ℕ → Result (A × ℕ) LogError} {s : A → List ℕ} {F : A → Type 0} → IsField A bytes r s F
    → IsBytes bytes → (make : A → C) (at : ℕ) (x : C × ℕ) → at ≤ length bytes → one_at r make at ≡ Ok x → (a : A) × Spans bytes at (s a) x.1 × F a × (make a ≡ x.0)
one_take {A} {C} {bytes} {r} {s} {F} field fits make at x le e =
    let p = then_takes bytes r s F field fits at (λ a. Ok (make a.0, a.1)) x le e in
    let made : C × ℕ = (make p.0.0, p.0.1) in
    let same : made ≡ x = ok_is made x p.3 in
    (p.0.0, subst (λ (y : C × ℕ). Spans bytes at (s p.0.0) y.1) same p.1, p.2, ap (λ (y : C × ℕ). y.0) same)

one_again : {A C : Type 0} {bytes : List ℕ} {r : ℕ → Result (A × ℕ) LogError} {s : A → List ℕ} {F : A → Type 0} → IsField A bytes r s F
    → (make : A → C) (at : ℕ) (a : A) (after : ℕ) → F a → Spans bytes at (s a) after → one_at r make at ≡ Ok (make a, after)
one_again field make at a after fa p = rw (field.again at a after fa p) refl

two_take : {A B C : Type 0} {bytes : List ℕ} {r : ℕ → Result (A × ℕ) LogError} {s : A → List ℕ} {F : A → Type 0} {r' : ℕ → Result (B × ℕ) LogError} {s' : B → List ℕ} {F' : B → Type 0}
    → IsField A bytes r s F → IsField B bytes r' s' F'
    → IsBytes bytes → (make : A → B → C) (at : ℕ) (x : C × ℕ) → at ≤ length bytes → two_at r r' make at ≡ Ok x
    → (a : A) × (b : B) × Spans bytes at (s a ++ s' b) x.1 × F a × F' b × (make a b ≡ x.0)
two_take {A} {B} {C} {bytes} {r} {s} {F} {r'} {s'} {F'} field field' fits make at x le e =
    let p = then_takes bytes r s F field fits at (λ a. r' a.1 >>= λ b. Ok (make a.0 b.0, b.1)) x le e in
    let q = then_takes bytes r' s' F' field' fits p.0.1 (λ b. Ok (make p.0.0 b.0, b.1)) x p.1.within p.3 in
    let made : C × ℕ = (make p.0.0 q.0.0, q.0.1) in
    let same : made ≡ x = ok_is made x q.3 in
    (p.0.0, q.0.0, subst (λ (y : C × ℕ). Spans bytes at (s p.0.0 ++ s' q.0.0) y.1) same (Spans-join bytes at (s p.0.0) p.0.1 (s' q.0.0) q.0.1 p.1 q.1), p.2, q.2, ap (λ (y : C × ℕ). y.0) same)

two_again : {A B C : Type 0} {bytes : List ℕ} {r : ℕ → Result (A × ℕ) LogError} {s : A → List ℕ} {F : A → Type 0} {r' : ℕ → Result (B × ℕ) LogError} {s' : B → List ℕ} {F' : B → Type 0}
    → IsField A bytes r s F → IsField B bytes r' s' F'
    → (make : A → B → C) (at : ℕ) (a : A) (b : B) (after : ℕ) → F a → F' b → Spans bytes at (s a ++ s' b) after → two_at r r' make at ≡ Ok (make a b, after)
two_again {A} {B} {C} {bytes} {r} {s} {F} {r'} {s'} {F'} field field' make at a b after fa fb p =
    rw (field.again at a (at + length (s a)) fa (Spans-first bytes at (s a) (s' b) after p), field'.again (at + length (s a)) b after fb (Spans-second bytes at (s a) (s' b) after p)) refl

three_take : {A B C D : Type 0} {bytes : List ℕ} {ra : ℕ → Result (A × ℕ) LogError} {sa : A → List ℕ} {FA : A → Type 0} {rb : ℕ → Result (B × ℕ) LogError} {sb : B → List ℕ} {FB : B → Type 0}
    {rc : ℕ → Result (C × ℕ) LogError} {sc : C → List ℕ} {FC : C → Type 0}
    → IsField A bytes ra sa FA → IsField B bytes rb sb FB → IsField C bytes rc sc FC
    → IsBytes bytes → (make : A → B → C → D) (at : ℕ) (x : D × ℕ) → at ≤ length bytes → three_at ra rb rc make at ≡ Ok x
    → (a : A) × (b : B) × (c : C) × Spans bytes at (sa a ++ (sb b ++ sc c)) x.1 × FA a × FB b × FC c × (make a b c ≡ x.0)
three_take {A} {B} {C} {D} {bytes} {ra} {sa} {FA} {rb} {sb} {FB} {rc} {sc} {FC} fa fb fc fits make at x le e =
    let p = then_takes bytes ra sa FA fa fits at (λ a. rb a.1 >>= λ b. rc b.1 >>= λ c. Ok (make a.0 b.0 c.0, c.1)) x le e in
    let t = two_take fb fc fits (make p.0.0) p.0.1 x p.1.within p.3 in
    (p.0.0, t.0, t.1, Spans-join bytes at (sa p.0.0) p.0.1 (sb t.0 ++ sc t.1) x.1 p.1 t.2, p.2, t.3, t.4, t.5)

three_again : {A B C D : Type 0} {bytes : List ℕ} {ra : ℕ → Result (A × ℕ) LogError} {sa : A → List ℕ} {FA : A → Type 0} {rb : ℕ → Result (B × ℕ) LogError} {sb : B → List ℕ} {FB : B → Type 0}
    {rc : ℕ → Result (C × ℕ) LogError} {sc : C → List ℕ} {FC : C → Type 0}
    → IsField A bytes ra sa FA → IsField B bytes rb sb FB → IsField C bytes rc sc FC
    → (make : A → B → C → D) (at : ℕ) (a : A) (b : B) (c : C) (after : ℕ) → FA a → FB b → FC c → Spans bytes at (sa a ++ (sb b ++ sc c)) after
    → three_at ra rb rc make at ≡ Ok (make a b c, after)
three_again {A} {B} {C} {D} {bytes} {ra} {sa} {FA} {rb} {sb} {FB} {rc} {sc} {FC} fa fb fc make at a b c after ha hb hc p =
    let b_at = at + length (sa a) in
    let rest = Spans-second bytes at (sa a) (sb b ++ sc c) after p in
    rw (fa.again at a b_at ha (Spans-first bytes at (sa a) (sb b ++ sc c) after p)) (two_again fb fc (make a) b_at b c after hb hc rest)

four_take : {A B C D E : Type 0} {bytes : List ℕ} {ra : ℕ → Result (A × ℕ) LogError} {sa : A → List ℕ} {FA : A → Type 0} {rb : ℕ → Result (B × ℕ) LogError} {sb : B → List ℕ} {FB : B → Type 0}
    {rc : ℕ → Result (C × ℕ) LogError} {sc : C → List ℕ} {FC : C → Type 0} {rd : ℕ → Result (D × ℕ) LogError} {sd : D → List ℕ} {FD : D → Type 0}
    → IsField A bytes ra sa FA → IsField B bytes rb sb FB → IsField C bytes rc sc FC → IsField D bytes rd sd FD
    → IsBytes bytes → (make : A → B → C → D → E) (at : ℕ) (x : E × ℕ) → at ≤ length bytes
    → four_at ra rb rc rd make at ≡ Ok x
    → (a : A) × (b : B) × (c : C) × (d : D) × Spans bytes at (sa a ++ (sb b ++ (sc c ++ sd d))) x.1 × FA a × FB b × FC c × FD d × (make a b c d ≡ x.0)
four_take {A} {B} {C} {D} {E} {bytes} {ra} {sa} {FA} {rb} {sb} {FB} {rc} {sc} {FC} {rd} {sd} {FD} fa fb fc fd fits make at x le e =
    let p = then_takes bytes ra sa FA fa fits at (λ a. rb a.1 >>= λ b. rc b.1 >>= λ c. rd c.1 >>= λ d. Ok (make a.0 b.0 c.0 d.0, d.1)) x le e in
    let q = then_takes bytes rb sb FB fb fits p.0.1 (λ b. rc b.1 >>= λ c. rd c.1 >>= λ d. Ok (make p.0.0 b.0 c.0 d.0, d.1)) x p.1.within p.3 in
    let t = two_take fc fd fits (make p.0.0 q.0.0) q.0.1 x q.1.within q.3 in
    let low = Spans-join bytes p.0.1 (sb q.0.0) q.0.1 (sc t.0 ++ sd t.1) x.1 q.1 t.2 in
    (p.0.0, q.0.0, t.0, t.1, Spans-join bytes at (sa p.0.0) p.0.1 (sb q.0.0 ++ (sc t.0 ++ sd t.1)) x.1 p.1 low, p.2, q.2, t.3, t.4, t.5)

four_again : {A B C D E : Type 0} {bytes : List ℕ} {ra : ℕ → Result (A × ℕ) LogError} {sa : A → List ℕ} {FA : A → Type 0} {rb : ℕ → Result (B × ℕ) LogError} {sb : B → List ℕ} {FB : B → Type 0}
    {rc : ℕ → Result (C × ℕ) LogError} {sc : C → List ℕ} {FC : C → Type 0} {rd : ℕ → Result (D × ℕ) LogError} {sd : D → List ℕ} {FD : D → Type 0}
    → IsField A bytes ra sa FA → IsField B bytes rb sb FB → IsField C bytes rc sc FC → IsField D bytes rd sd FD
    → (make : A → B → C → D → E) (at : ℕ) (a : A) (b : B) (c : C) (d : D) (after : ℕ) → FA a → FB b → FC c → FD d → Spans bytes at (sa a ++ (sb b ++ (sc c ++ sd d))) after
    → four_at ra rb rc rd make at ≡ Ok (make a b c d, after)
four_again {A} {B} {C} {D} {E} {bytes} {ra} {sa} {FA} {rb} {sb} {FB} {rc} {sc} {FC} {rd} {sd} {FD} fa fb fc fd make at a b c d after ha hb hc hd p =
    let b_at = at + length (sa a) in
    let p1 = Spans-second bytes at (sa a) (sb b ++ (sc c ++ sd d)) after p in
    let c_at = b_at + length (sb b) in
    let p2 = Spans-second bytes b_at (sb b) (sc c ++ sd d) after p1 in
    rw (fa.again at a b_at ha (Spans-first bytes at (sa a) (sb b ++ (sc c ++ sd d)) after p), fb.again b_at b c_at hb (Spans-first bytes b_at (sb b) (sc c ++ sd d) after p1)) (two_again fc fd (make a b) c_at c d after hc hd p2)

-- ---- a frame with what is noted beside it

pub record IsPassage (version : LogVersion) (x : Passage) : Type 0 where
  pub connection : x.connection < 2 ^ 32
  pub call : x.call < 2 ^ 64
  pub references : IsList version IsNumber x.references
  pub frame : IsFrame x.frame

abbrev passage : ℕ → ℕ → List ℕ → List ℕ → Passage
passage connection call references frame = record { connection = connection; call = call; references = references; frame = frame }

abbrev passage_spelling : LogVersion → Passage → List ℕ
passage_spelling version x = passage_bytes version x.connection x.call x.references x.frame

passage_takes : (version : LogVersion) (bytes : List ℕ) → IsBytes bytes → (at : ℕ) (x : Passage) (after : ℕ) → at ≤ length bytes → passage_at version bytes at ≡ Ok (x, after) → Spans bytes at (passage_spelling version x) after × IsPassage version x
unfolding passage_at
passage_takes version bytes fits at x after le e =
    let t = four_take (u32_field bytes) (u64_field bytes) (references_field version bytes) (frame_field bytes) fits passage at (x, after) le e in
    subst (λ y. Spans bytes at (passage_spelling version y) after × IsPassage version y) t.9 (t.4, record { connection = t.5; call = t.6; references = t.7; frame = t.8 })

passage_again : (version : LogVersion) (bytes : List ℕ) (at : ℕ) (x : Passage) (after : ℕ) → IsPassage version x → Spans bytes at (passage_spelling version x) after → passage_at version bytes at ≡ Ok (x, after)
unfolding passage_at
passage_again version bytes at x after is p =
    four_again (u32_field bytes) (u64_field bytes) (references_field version bytes) (frame_field bytes) passage at x.connection x.call x.references x.frame after is.connection is.call is.references is.frame p

passage_field : (version : LogVersion) (bytes : List ℕ) → IsField Passage bytes (passage_at version bytes) (passage_spelling version) (IsPassage version)
passage_field version bytes = record {
  takes = λ fits at x after le e. passage_takes version bytes fits at x after le e;
  again = λ at x after is p. passage_again version bytes at x after is p;
}

-- ---- each kind

abbrev Taken : LogVersion → List ℕ → ℕ → ℕ → RecordKind → Body → Type 0
Taken version bytes at after kind said = Spans bytes at (fields_bytes version said) after × FitsWide version said × (kind_in said ≡ kind)

host_takes : (version : LogVersion) (bytes : List ℕ) → IsBytes bytes → (at : ℕ) (x : Body × ℕ) → at ≤ length bytes → host_at bytes at ≡ Ok x → Taken version bytes at x.1 Host x.0
unfolding host_at
host_takes version bytes fits at x le e =
    let t = two_take (nonzero_field bytes) (u64_field bytes) fits (λ a b. body.Host a b) at x le e in
    subst (Taken version bytes at x.1 Host) t.5 (t.2, record { fits = record { numbered = t.3.0; counted = tt }; listed = tt; wide = (t.3.1, t.4) }, refl)

vow_takes : (version : LogVersion) (bytes : List ℕ) → IsBytes bytes → (at : ℕ) (x : Body × ℕ) → at ≤ length bytes → vow_at bytes at ≡ Ok x → Taken version bytes at x.1 Vow x.0
unfolding vow_at
vow_takes version bytes fits at x le e =
    let t = one_take (nonzero_field bytes) fits (λ a. body.Vow a) at x le e in
    subst (Taken version bytes at x.1 Vow) t.3 (t.1, record { fits = record { numbered = t.2.0; counted = tt }; listed = tt; wide = t.2.1 }, refl)

fulfil_takes : (version : LogVersion) (bytes : List ℕ) → IsBytes bytes → (at : ℕ) (x : Body × ℕ) → at ≤ length bytes → fulfil_at bytes at ≡ Ok x → Taken version bytes at x.1 Fulfil x.0
unfolding fulfil_at
fulfil_takes version bytes fits at x le e =
    let t = two_take (nonzero_field bytes) (nonzero_field bytes) fits (λ a b. body.Fulfil a b) at x le e in
    subst (Taken version bytes at x.1 Fulfil) t.5 (t.2, record { fits = record { numbered = (t.3.0, t.4.0); counted = tt }; listed = tt; wide = (t.3.1, t.4.1) }, refl)

break_takes : (version : LogVersion) (bytes : List ℕ) → IsBytes bytes → (at : ℕ) (x : Body × ℕ) → at ≤ length bytes → break_at bytes at ≡ Ok x → Taken version bytes at x.1 Break x.0
unfolding break_at
break_takes version bytes fits at x le e =
    let t = one_take (nonzero_field bytes) fits (λ a. body.Break a) at x le e in
    subst (Taken version bytes at x.1 Break) t.3 (t.1, record { fits = record { numbered = t.2.0; counted = tt }; listed = tt; wide = t.2.1 }, refl)

make_takes : (version : LogVersion) (bytes : List ℕ) → IsBytes bytes → (at : ℕ) (x : Body × ℕ) → at ≤ length bytes → make_at bytes at ≡ Ok x → Taken version bytes at x.1 Make x.0
unfolding make_at
make_takes version bytes fits at x le e =
    let t = four_take (nonzero_field bytes) (nonzero_field bytes) (u64_field bytes) (u16_field bytes) fits (λ a b c d. body.Make a b c d) at x le e in
    subst (Taken version bytes at x.1 Make) t.9 (t.4, record { fits = record { numbered = (t.5.0, t.6.0); counted = tt }; listed = tt; wide = (t.5.1, t.6.1, t.7, t.8) }, refl)

field_takes : (version : LogVersion) (bytes : List ℕ) → IsBytes bytes → (at : ℕ) (x : Body × ℕ) → at ≤ length bytes → field_at version bytes at ≡ Ok x → Taken version bytes at x.1 Field x.0
unfolding field_at
field_takes version bytes fits at x le e =
    let t = three_take (nonzero_field bytes) (nonzero_field bytes) (path_field version bytes) fits (λ a b c. body.Field a b c) at x le e in
    subst (Taken version bytes at x.1 Field) t.7 (t.3, record { fits = record { numbered = (t.4.0, t.5.0); counted = t.6.0.0 }; listed = t.6.0.1; wide = (t.4.1, t.5.1, t.6.1) }, refl)

deliver_takes : (version : LogVersion) (bytes : List ℕ) → IsBytes bytes → (at : ℕ) (x : Body × ℕ) → at ≤ length bytes → deliver_at bytes at ≡ Ok x → Taken version bytes at x.1 Deliver x.0
unfolding deliver_at
deliver_takes version bytes fits at x le e =
    let t = two_take (nonzero_field bytes) (u64_field bytes) fits (λ a b. body.Deliver a b) at x le e in
    subst (Taken version bytes at x.1 Deliver) t.5 (t.2, record { fits = record { numbered = t.3.0; counted = tt }; listed = tt; wide = (t.3.1, t.4) }, refl)

answer_takes : (version : LogVersion) (bytes : List ℕ) → IsBytes bytes → (at : ℕ) (x : Body × ℕ) → at ≤ length bytes → answer_at version bytes at ≡ Ok x → Taken version bytes at x.1 Answer x.0
unfolding answer_at
answer_takes version bytes fits at x le e =
    let t = two_take (nonzero_field bytes) (results_field version bytes) fits (λ a b. body.Answer a b) at x le e in
    let results = t.4.1 in
    subst (Taken version bytes at x.1 Answer) t.5 (
      t.2,
      record {
        fits = record { numbered = (t.3.0, λ k d lt. (results k d lt).0.0); counted = (t.4.0.0, λ k d lt. (results k d lt).1.0.0) };
        listed = (t.4.0.1, λ k d lt. (results k d lt).1.0.1);
        wide = (t.3.1, λ k d lt. ((results k d lt).0.1, (results k d lt).1.1));
      },
      refl,
    )

fault_takes : (version : LogVersion) (bytes : List ℕ) → IsBytes bytes → (at : ℕ) (x : Body × ℕ) → at ≤ length bytes → fault_at bytes at ≡ Ok x → Taken version bytes at x.1 Fault x.0
unfolding fault_at
fault_takes version bytes fits at x le e =
    let t = one_take (nonzero_field bytes) fits (λ a. body.Fault a) at x le e in
    subst (Taken version bytes at x.1 Fault) t.3 (t.1, record { fits = record { numbered = t.2.0; counted = tt }; listed = tt; wide = t.2.1 }, refl)

abbrev sent : Passage → Body
sent x = body.Send x.connection x.call x.references x.frame

abbrev received : Passage → Body
received x = body.Receive x.connection x.call x.references x.frame

passage_fits : (version : LogVersion) (x : Passage) → IsPassage version x → FitsWide version (sent x) × FitsWide version (received x)
passage_fits version x is =
    let counted : (length x.references ≤ 1048576) × (length x.frame ≤ 67108864) = (is.references.0.0, is.frame) in (
      record { fits = record { numbered = λ k d lt. (is.references.1 k d lt).0; counted = counted }; listed = is.references.0.1; wide = (is.connection, is.call, λ k d lt. (is.references.1 k d lt).1) },
      record { fits = record { numbered = λ k d lt. (is.references.1 k d lt).0; counted = counted }; listed = is.references.0.1; wide = (is.connection, is.call, λ k d lt. (is.references.1 k d lt).1) },
    )

send_takes : (version : LogVersion) (bytes : List ℕ) → IsBytes bytes → (at : ℕ) (x : Body × ℕ) → at ≤ length bytes → send_at version bytes at ≡ Ok x → Taken version bytes at x.1 Send x.0
unfolding send_at
send_takes version bytes fits at x le e =
    let a = then_takes bytes (passage_at version bytes) (passage_spelling version) (IsPassage version) (passage_field version bytes) fits at (λ p. Ok (sent p.0, p.1)) x le e in
    let made : Body × ℕ = (sent a.0.0, a.0.1) in
    subst (λ (y : Body × ℕ). Taken version bytes at y.1 Send y.0) (ok_is made x a.3) (a.1, (passage_fits version a.0.0 a.2).0, refl)

receive_takes : (version : LogVersion) (bytes : List ℕ) → IsBytes bytes → (at : ℕ) (x : Body × ℕ) → at ≤ length bytes → receive_at version bytes at ≡ Ok x → Taken version bytes at x.1 Receive x.0
unfolding receive_at
receive_takes version bytes fits at x le e =
    let a = then_takes bytes (passage_at version bytes) (passage_spelling version) (IsPassage version) (passage_field version bytes) fits at (λ p. Ok (received p.0, p.1)) x le e in
    let made : Body × ℕ = (received a.0.0, a.0.1) in
    subst (λ (y : Body × ℕ). Taken version bytes at y.1 Receive y.0) (ok_is made x a.3) (a.1, (passage_fits version a.0.0 a.2).1, refl)

answer_by_takes : (version : LogVersion) (bytes : List ℕ) → IsBytes bytes → (at : ℕ) (x : Body × ℕ) → at ≤ length bytes → answer_by_at bytes at ≡ Ok x → Taken version bytes at x.1 AnswerBy x.0
unfolding answer_by_at
answer_by_takes version bytes fits at x le e =
    let t = two_take (nonzero_field bytes) (nonzero_field bytes) fits (λ a b. body.AnswerBy a b) at x le e in
    subst (Taken version bytes at x.1 AnswerBy) t.5 (t.2, record { fits = record { numbered = (t.3.0, t.4.0); counted = tt }; listed = tt; wide = (t.3.1, t.4.1) }, refl)

-- what is read of a kind is a body of that kind, spelled so
pub fields_take : (version : LogVersion) (kind : RecordKind) (bytes : List ℕ) → IsBytes bytes → (at : ℕ) (x : Body × ℕ) → at ≤ length bytes → fields_at version kind bytes at ≡ Ok x → Taken version bytes at x.1 kind x.0
fields_take version Host bytes fits at x le e = host_takes version bytes fits at x le e
fields_take version Vow bytes fits at x le e = vow_takes version bytes fits at x le e
fields_take version Fulfil bytes fits at x le e = fulfil_takes version bytes fits at x le e
fields_take version Break bytes fits at x le e = break_takes version bytes fits at x le e
fields_take version Make bytes fits at x le e = make_takes version bytes fits at x le e
fields_take version Field bytes fits at x le e = field_takes version bytes fits at x le e
fields_take version Deliver bytes fits at x le e = deliver_takes version bytes fits at x le e
fields_take version Answer bytes fits at x le e = answer_takes version bytes fits at x le e
fields_take version Fault bytes fits at x le e = fault_takes version bytes fits at x le e
fields_take version Send bytes fits at x le e = send_takes version bytes fits at x le e
fields_take version Receive bytes fits at x le e = receive_takes version bytes fits at x le e
fields_take version AnswerBy bytes fits at x le e = answer_by_takes version bytes fits at x le e

-- ---- what is spelled so is read

passage_is : (version : LogVersion) (connection call : ℕ) (references frame : List ℕ) → All (λ reference. 0 < reference) references → (length references ≤ 1048576) × (length frame ≤ 67108864)
    → (connection < 2 ^ 32) × (call < 2 ^ 64) × All (λ reference. reference < 2 ^ 64) references → length references < count_reach version → IsPassage version (passage connection call references frame)
passage_is version connection call references frame numbered counted wide listed = record {
  connection = wide.0;
  call = wide.1;
  references = ((counted.0, listed), λ k d lt. (numbered k d lt, wide.2 k d lt));
  frame = counted.1;
}

pub fields_again : (version : LogVersion) (said : Body) (bytes : List ℕ) (at after : ℕ) → FitsWide version said → Spans bytes at (fields_bytes version said) after → fields_at version (kind_in said) bytes at ≡ Ok (said, after)
unfolding host_at vow_at fulfil_at break_at make_at field_at deliver_at answer_at fault_at send_at receive_at answer_by_at
fields_again version (body.Host reference object) bytes at after is p =
    two_again (nonzero_field bytes) (u64_field bytes) (λ a b. body.Host a b) at reference object after (is.fits.numbered, is.wide.0) is.wide.1 p
fields_again version (body.Vow reference) bytes at after is p =
    one_again (nonzero_field bytes) (λ a. body.Vow a) at reference after (is.fits.numbered, is.wide) p
fields_again version (body.Fulfil reference to) bytes at after is p =
    two_again (nonzero_field bytes) (nonzero_field bytes) (λ a b. body.Fulfil a b) at reference to after (is.fits.numbered.0, is.wide.0) (is.fits.numbered.1, is.wide.1) p
fields_again version (body.Break reference) bytes at after is p =
    one_again (nonzero_field bytes) (λ a. body.Break a) at reference after (is.fits.numbered, is.wide) p
fields_again version (body.Make call reference interface method) bytes at after is p =
    four_again (nonzero_field bytes) (nonzero_field bytes) (u64_field bytes) (u16_field bytes) (λ a b c d. body.Make a b c d) at call reference interface method after (is.fits.numbered.0, is.wide.0) (is.fits.numbered.1, is.wide.1) is.wide.2 is.wide.3 p
fields_again version (body.Field reference call path) bytes at after is p =
    three_again (nonzero_field bytes) (nonzero_field bytes) (path_field version bytes) (λ a b c. body.Field a b c) at reference call path after (is.fits.numbered.0, is.wide.0) (is.fits.numbered.1, is.wide.1) ((is.fits.counted, is.listed), is.wide.2) p
fields_again version (body.Deliver call object) bytes at after is p =
    two_again (nonzero_field bytes) (u64_field bytes) (λ a b. body.Deliver a b) at call object after (is.fits.numbered, is.wide.0) is.wide.1 p
fields_again version (body.Answer call results) bytes at after is p =
    two_again (nonzero_field bytes) (results_field version bytes) (λ a b. body.Answer a b) at call results after (is.fits.numbered.0, is.wide.0)
    ((is.fits.counted.0, is.listed.0), λ k d lt. ((is.fits.numbered.1 k d lt, (is.wide.1 k d lt).0), ((is.fits.counted.1 k d lt, is.listed.1 k d lt), (is.wide.1 k d lt).1))) p
fields_again version (body.Fault call) bytes at after is p =
    one_again (nonzero_field bytes) (λ a. body.Fault a) at call after (is.fits.numbered, is.wide) p
fields_again version (body.Send connection call references frame) bytes at after is p =
    rw (passage_again version bytes at (passage connection call references frame) after (passage_is version connection call references frame is.fits.numbered is.fits.counted is.wide is.listed) p) refl
fields_again version (body.Receive connection call references frame) bytes at after is p =
    rw (passage_again version bytes at (passage connection call references frame) after (passage_is version connection call references frame is.fits.numbered is.fits.counted is.wide is.listed) p) refl
fields_again version (body.AnswerBy call by) bytes at after is p =
    two_again (nonzero_field bytes) (nonzero_field bytes) (λ a b. body.AnswerBy a b) at call by after (is.fits.numbered.0, is.wide.0) (is.fits.numbered.1, is.wide.1) p
