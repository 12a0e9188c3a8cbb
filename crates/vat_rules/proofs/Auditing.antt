-- One record more of a log that is audited one record after another.
use Rattle.std.proofs.Common.{◌≡◌, ℕ, ◌+◌, ◌<◌, ◌≤◌, ◌^◌, List, [], ◌∷◌, ◌++◌, length, sym, ◌∙◌, ap, refl, subst, arith}
use Rattle.std.specs.Prelude.{◌-◌, Option, Some, None, reverse, count_by}
use Rattle.std.proofs.lemmas.List.{reverse-append, length_push}
use Rattle.std.proofs.lemmas.List.Sums.{count_by-le-length}
use Rattle.cap_reader.specs.declared.limits.Limits.{Limits}
use Rattle.vat_log.specs.Log.{Log}
use Rattle.vat_log.specs.declared.body.Body.{Body}
use Rattle.decoded_records.specs.Past.{Past}
use Rattle.vat_rules.specs.declared.outcome.Outcome.TheVariants.{Good}
use Rattle.vat_rules.specs.declared.taking.Refusal.{Refusal}
use Rattle.vat_rules.specs.Types.{Edition, DecodedRecord}
use Rattle.vat_rules.specs.Events.{Reader, past_at}
use Rattle.vat_rules.specs.Telling.{entries_back, is_delivery}
use Rattle.vat_rules.specs.First.{AllGood, IsFirst}
use Rattle.vat_rules.specs.Audit.{reads_by}
use Rattle.vat_rules.specs.Audited.{Audited}
use Rattle.vat_rules.specs.Glue.Taking.{IsPut, IsRefused, refused_at}
use Rattle.vat_rules.specs.Glue.Auditing.{AreGood, Stands}
use Rattle.vat_rules.proofs.Firsts.{told}
use Rattle.vat_rules.proofs.Taken.{first_refused, put_past, put_good}
use Rattle.vat_rules.proofs.SlimOutcomes.{good_by, one_longer}
use Rattle.vat_rules.proofs.Longer.{at_the_end, past_longer, all_longer, refused_longer}

-- the good records are those before the next
before_next : (read : Reader) (log : List Body) (b : Body) (past : Past) → past ≡ past_at read log (length log) → past ≡ past_at read (log ++ b ∷ []) (length log)
before_next read log b past is = is ∙ sym (past_longer read log (b ∷ []) (length log) (omega arith))

-- one good record more
pub good_put : (edition : Edition) (read : Reader) (log : List Body) (b : Body) (past after : Past) (e : DecodedRecord) →
    AreGood edition read log past → IsPut edition read past b after e → AreGood edition read (log ++ b ∷ []) after
good_put edition read log b past after e so put =
    let before = before_next read log b past so.before in
    let one : length (log ++ b ∷ []) ≡ length log + 1 = length_push log b in
    let good = all_longer edition read log (b ∷ []) (length log) so.good in
    record {
      good = subst (λ n. AllGood edition read (log ++ b ∷ []) n) (sym one) (put_good edition read (log ++ b ∷ []) (length log) b past after e (at_the_end log b) before put good);
      before = put_past edition read (log ++ b ∷ []) (length log) b past after e (at_the_end log b) before put ∙ ap (λ n. past_at read (log ++ b ∷ []) n) (sym one);
      as_many = ap (λ p. length p) put.state ∙ one_longer e past ∙ ap (λ n. n + 1) so.as_many ∙ sym one;
    }

-- the next isn't good
pub good_refused : (edition : Edition) (read : Reader) (log : List Body) (b : Body) (past : Past) (at : ℕ) (answer : Refusal) → at ≡ length past →
    AreGood edition read log past → IsRefused edition read past b answer → IsFirst edition read (log ++ b ∷ []) (refused_at at answer)
good_refused edition read log b past at answer is so refused =
    subst (λ n. IsFirst edition read (log ++ b ∷ []) (refused_at n answer)) (sym (is ∙ so.as_many))
    (first_refused edition read (log ++ b ∷ []) (length log) b past answer (at_the_end log b) (before_next read log b past so.before) refused
    (all_longer edition read log (b ∷ []) (length log) so.good))

-- one isn't good already
pub still_refused : (edition : Edition) (read : Reader) (log : List Body) (b : Body) (past : Past) (first : ℕ × Refusal) →
    Stands edition read log past (Some first) → Stands edition read (log ++ b ∷ []) past (Some first)
still_refused edition read log b past (at, answer) is = refused_longer edition read log (b ∷ []) at answer is

-- all are good
pub good_all : (edition : Edition) (read : Reader) (log : List Body) (past : Past) → AreGood edition read log past →
    IsFirst edition read log (Good (told (reverse (entries_back past)) (count_by is_delivery past)))
good_all edition read log past so = good_by edition read log past (count_by is_delivery past) so.good so.before refl

-- what is audited, by its parts
abbrev pub audited : Log → Limits → Audited
audited log limits = record { log = log; limits = limits }

-- the records in their order, with one more
in_order : (taken more : List Body) (b : Body) → more ≡ b ∷ taken → reverse more ≡ reverse taken ++ b ∷ []
in_order taken more b is = ap reverse is ∙ reverse-append (b ∷ []) taken

-- how many are taken, with one more
pub counted_more : (n count : ℕ) (taken more : List Body) (b : Body) → n ≡ length taken → count ≡ n + 1 → more ≡ b ∷ taken → count ≡ length more
counted_more n count taken more b so one is =
    let longer : length (b ∷ taken) ≡ length taken + 1 = omega arith in
    one ∙ ap (λ k. k + 1) so ∙ sym longer ∙ sym (ap length is)

pub stands_more : (edition : Edition) (read : Reader) (taken more : List Body) (b : Body) (past : Past) (refused : Option (ℕ × Refusal)) → more ≡ b ∷ taken →
    Stands edition read (reverse taken ++ b ∷ []) past refused → Stands edition read (reverse more) past refused
stands_more edition read taken more b past refused is so = subst (λ log. Stands edition read log past refused) (sym (in_order taken more b is)) so

pub take_by : (edition e : Edition) (limits : Limits) (taken more : List Body) (b : Body) (past after : Past) (refused now : Option (ℕ × Refusal)) → e ≡ edition → more ≡ b ∷ taken →
    (Stands e (reads_by e limits) (reverse taken) past refused → Stands e (reads_by e limits) (reverse taken ++ b ∷ []) after now) →
    Stands edition (reads_by edition limits) (reverse taken) past refused → Stands edition (reads_by edition limits) (reverse more) after now
take_by edition e limits taken more b past after refused now same is on so =
    stands_more edition (reads_by edition limits) taken more b after now is
    (subst (λ (x : Edition). Stands x (reads_by x limits) (reverse taken ++ b ∷ []) after now) same
    (on (subst (λ (x : Edition). Stands x (reads_by x limits) (reverse taken) past refused) (sym same) so)))

-- before any record
pub begun : (edition : Edition) (read : Reader) (taken : List Body) (past : Past) → taken ≡ [] → past ≡ [] → Stands edition read (reverse taken) past None
begun edition read taken past none first = rw (none, first) record { good = λ i lt. absurd (let no : ⊥ = omega (arith, lt) in no); before = refl; as_many = refl }

-- no more deliveries than records
pub room_to_count : (past : Past) (n delivered more : ℕ) → n ≡ length past → delivered ≡ count_by is_delivery past → more ≡ n + 1 → more < 2 ^ 64 → delivered + 1 < 2 ^ 64
room_to_count past n delivered more is counted one small = omega (arith, is, counted, one, small, count_by-le-length is_delivery past)
