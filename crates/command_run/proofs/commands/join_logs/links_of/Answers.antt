use Rattle.std.proofs.Common.{◌≡◌, ◌+◌, get_or, length, subst, sym, arith, rules, List}
use Rattle.std.proofs.lemmas.Option.{slice_get-get_or}
use Rattle.case_book.specs.declared.link.Link.{Link}
use Rattle.log_ends.specs.declared.log_end.EndPair.{EndPair}
use Rattle.command_run.proofs.Joins.{LinksUpTo, all_links, first_within, no_links, one_link, second_within}
use Rattle.command_run.proofs.commands.join_logs.links_of.Goals as goal

pub loop-number-init : goal.loop-number-init
loop-number-init c = no_links c.args.logs.now c.args.pairs.now c.new-links.result.items (search rules)

pub link_of-requires-clause-first : goal.link_of-requires-clause-first
link_of-requires-clause-first c =
    let none : EndPair = record { first = record { log = 0; connection = 0 }; second = record { log = 0; connection = 0 } } in
    let at = slice_get-get_or c.args.pairs.now c.loop-number.number none c.loop-number-test.true in
    first_within c.args.logs.now c.args.pairs.now c.loop-number.number (get_or c.args.pairs.now c.loop-number.number none) c.requires.joined at

pub link_of-requires-clause-second : goal.link_of-requires-clause-second
link_of-requires-clause-second c =
    let none : EndPair = record { first = record { log = 0; connection = 0 }; second = record { log = 0; connection = 0 } } in
    let at = slice_get-get_or c.args.pairs.now c.loop-number.number none c.loop-number-test.true in
    second_within c.args.logs.now c.args.pairs.now c.loop-number.number (get_or c.args.pairs.now c.loop-number.number none) c.requires.joined at

pub loop-number-preserved : goal.loop-number-preserved
loop-number-preserved c =
    let none : EndPair = record { first = record { log = 0; connection = 0 }; second = record { log = 0; connection = 0 } } in
    let at = slice_get-get_or c.args.pairs.now c.loop-number.number none c.loop-number-test.true in
    subst (λ (links : List Link). LinksUpTo c.args.logs.now c.args.pairs.now (c.loop-number.number + 1) links) (sym c.in_ok-push.ensures.items)
    (one_link c.args.logs.now c.args.pairs.now c.loop-number.number c.loop-number.links.items (get_or c.args.pairs.now c.loop-number.number none) c.link_of.result c.loop-number.invariant at c.link_of.ensures)

pub returns : goal.returns
returns c =
    let whole : c.loop-number.number ≡ length c.args.pairs.now = omega (arith, c.loop-number-test.false, c.loop-number.auto) in
    all_links c.args.logs.now c.args.pairs.now c.loop-number.number c.loop-number.links.items whole c.loop-number.invariant
