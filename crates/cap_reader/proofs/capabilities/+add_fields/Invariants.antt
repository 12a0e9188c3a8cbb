use Rattle.std.proofs.Common.{◌≡◌, ◌≤◌, ◌+◌, ◌-◌, ◌++◌, [], ◌∷◌}
use Rattle.cap_reader.specs.Reading.{run, price, each}
use Rattle.cap_reader.specs.Glue.{with_front}
use Rattle.cap_reader.specs.Fields.{fields_in}
use Rattle.cap_reader.specs.Tree.{tree_at}
use Rattle.cap_reader.specs.Places.{child_at}
use Rattle.cap_reader.proofs.capabilities.+add_fields.Given as goal

abbrev pub decreases-add_fields : goal.decreases-add_fields
decreases-add_fields l = l.depth

abbrev pub invariant-loop-number : goal.invariant-loop-number
invariant-loop-number l =
    let each_field = each (λ n. fields_in (l.fn.path ++ n ∷ []) (child_at l.frame l.content n)) in
    record {
      so_far : with_front l.found.items (run (each_field l.number (l.content.pointer_count - l.number)) l.limits.words) ≡ with_front l.fn.found.items (run (fields_in l.fn.path (tree_at l.fn.depth l.frame l.fn.segment l.fn.at)) l.fn.limits.words);
      paid : l.fn.limits.words + price (each_field l.number (l.content.pointer_count - l.number)) ≡ l.limits.words + price (fields_in l.fn.path (tree_at l.fn.depth l.frame l.fn.segment l.fn.at));
      fewer_words : l.limits.words ≤ l.fn.limits.words;
      same_depth : l.limits.depth ≡ l.fn.limits.depth;
    }
