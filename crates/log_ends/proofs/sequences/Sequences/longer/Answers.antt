use Rattle.std.proofs.Common.{◌≡◌, ℕ, List, Option, Some, cond, sym, ap, subst, ◌∙◌, ◌+◌}
use Rattle.std.specs.Prelude.{is_some, if◌then◌else◌}
use Rattle.std.specs.Ordering.{is_eq}
use Rattle.std.specs.BTreeMap.{btree_map_len}
use Rattle.log_ends.specs.Glue.{number_frame_cmp, number_behind, AreGiven}
use Rattle.log_ends.proofs.Numbering.{behind_some, kept_from, more, given_more}
use Rattle.log_ends.proofs.Keys.{same_key}
use Rattle.log_ends.proofs.sequences.Sequences.longer.Goals as goal

pub returns-in-Some-clause-ok : goal.returns-in-Some-clause-ok
returns-in-Some-clause-ok c =
    λ frames e. behind_some (number_behind c.args.self.now) frames c.args.frame.now c.args.number c.in-Some.known.now e
    (ap (λ (f : List ℕ). number_behind c.args.self.now (c.args.number, f)) (sym c.in_ok-clone.ensures.cases) ∙ sym c.in-Some.ensures.value)

-- what stands behind each number and frame after the insertion
update : (c : goal.In_ok-insert) (q : ℕ × List ℕ) → number_behind (record { places = c.insert.new.self }) q ≡ cond (is_eq (number_frame_cmp (c.args.number, c.in_ok-clone.field-0) q)) (Some (btree_map_len c.args.self.now.places + 1)) (number_behind c.args.self.now q)
update c q = c.in_ok-insert.ensures.updates.0 q ∙ ap (λ n. cond (is_eq (number_frame_cmp (c.args.number, c.in_ok-clone.field-0) q)) (Some (n + 1)) (number_behind c.args.self.now q)) c.len.ensures.len

more_later : (c : goal.In_ok-insert) (q : ℕ × List ℕ) (n : ℕ) → number_behind c.args.self.now q ≡ Some n → number_behind (record { places = c.insert.new.self }) q ≡ Some n
more_later c =
    more (number_behind c.args.self.now) (number_behind (record { places = c.insert.new.self })) (λ q. is_eq (number_frame_cmp (c.args.number, c.in_ok-clone.field-0) q)) (c.args.number, c.in_ok-clone.field-0) (btree_map_len c.args.self.now.places + 1)
    (same_key (c.args.number, c.in_ok-clone.field-0)) (sym c.in_default.ensures.value) (update c)

pub returns-clause-sound : goal.returns-clause-sound
returns-clause-sound c =
    let count : btree_map_len c.insert.new.self ≡ btree_map_len c.args.self.now.places + 1 = c.in_ok-insert.ensures.len ∙ ap (λ (o : Option ℕ). btree_map_len c.args.self.now.places + (if is_some o then 0 else 1)) (c.in_ok-insert.ensures.old ∙ sym c.in_default.ensures.value) in
    subst (λ (n : ℕ). AreGiven (number_behind (record { places = c.insert.new.self })) n) (sym count)
    (given_more (number_behind c.args.self.now) (number_behind (record { places = c.insert.new.self })) (λ q. is_eq (number_frame_cmp (c.args.number, c.in_ok-clone.field-0) q)) (c.args.number, c.in_ok-clone.field-0) (btree_map_len c.args.self.now.places) c.requires (same_key (c.args.number, c.in_ok-clone.field-0)) (update c))

pub returns-clause-keeps : goal.returns-clause-keeps
returns-clause-keeps c = λ frames n e. kept_from (number_behind c.args.self.now) (number_behind (record { places = c.insert.new.self })) (more_later c) 0 frames n e

pub returns-clause-ok : goal.returns-clause-ok
returns-clause-ok c =
    λ frames e. behind_some (number_behind (record { places = c.insert.new.self })) frames c.args.frame.now c.args.number (c.len.result + 1) (kept_from (number_behind c.args.self.now) (number_behind (record { places = c.insert.new.self })) (more_later c) 0 frames c.args.number e)
    (ap (λ (f : List ℕ). number_behind (record { places = c.insert.new.self }) (c.args.number, f)) (sym c.in_ok-clone.ensures.cases) ∙ c.in_ok-insert.ensures.updates.1)
