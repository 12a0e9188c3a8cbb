use Rattle.std.specs.Prelude.{◌++◌, option_to_list}
use Rattle.std.specs.List.{filter_map}
use Rattle.decoded_records.specs.Questions.{question_finished, question_taken, is_unfinished}
use Rattle.decoded_records.specs.Lives.{descriptors}
use Rattle.decoded_records.specs.Uses.{question_targeted, question_described}
use Rattle.vat_view.proofs.Using.{joined, joined_more}
use Rattle.vat_view.proofs.preconditions.uses.uses_unfinished.Goals as goal

pub returns : goal.returns
returns c =
    let e = c.args.event.now in
    joined_more (λ q. is_unfinished q c.args.state.now) c.question_taken.result (question_taken e)
    (option_to_list (question_targeted e) ++ filter_map (question_described e) (descriptors e) ++ option_to_list (question_finished e)) c.both.result c.all_three-mentioned.result c.is_unfinished-3.result c.both.ensures
    (joined (λ q. is_unfinished q c.args.state.now) c.question_targeted.result (question_targeted e) c.question_finished.result (question_finished e) (question_described e) (descriptors e)
    c.all_three-mentioned.result c.is_unfinished.result c.describes_unfinished.result c.is_unfinished-2.result
    c.all_three-mentioned.ensures c.is_unfinished.ensures c.question_targeted.ensures c.describes_unfinished.ensures c.is_unfinished-2.ensures c.question_finished.ensures)
    c.is_unfinished-3.ensures c.question_taken.ensures
