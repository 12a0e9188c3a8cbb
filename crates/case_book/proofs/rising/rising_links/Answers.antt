use Rattle.std.proofs.Common.{◌≡◌, ◌≤◌, Some, None, List, length, ap, sym, ◌∙◌, arith, rules}
use Rattle.std.specs.Option.{option_map}
use Rattle.std.proofs.lemmas.List.Sorted.{IsNonDecreasingBy-from_sort_by_key, IsPermutation-map}
use Rattle.case_book.specs.Case.{connections_of, link_limit}
use Rattle.case_book.specs.Glue.{first_same}
use Rattle.case_book.specs.declared.link.Link.{Link}
use Rattle.case_book.specs.declared.error.CaseError.TheVariants.{TooManyLinks, SameLink}
use Rattle.case_book.proofs.Sorted.{Rises, rises, none_found, some_found, strictly, few_enough}
use Rattle.case_book.proofs.rising.rising_links.Goals as goal

pub returns-in-Some-clause-err : goal.returns-in-Some-clause-err
returns-in-Some-clause-err c =
    let sorted = c.sort_unstable_by_key.new.self.items in
    let rising : Rises (connections_of sorted) = rises (λ (link : Link). link.connection) _ (IsNonDecreasingBy-from_sort_by_key (λ (link : Link). link.connection) _ c.sort_unstable_by_key.ensures.sorted (λ a r q k. search rules)) in
    let moved = IsPermutation-map (λ (link : Link). link.connection) _ _ c.sort_unstable_by_key.ensures.permutation in
    let few : length c.args.links.items ≤ link_limit = omega arith in
    let first : first_same None (connections_of sorted) ≡ Some c.in-Some.connection = ap (λ (links : List Link). first_same None (connections_of links)) (sym c.deref.ensures.value) ∙ sym c.repeated_connection.ensures ∙ c.in-Some.is in
    few_enough link_limit (length c.args.links.items) TooManyLinks _ few ∙ ap (option_map SameLink) (some_found (connections_of c.args.links.items) _ c.in-Some.connection moved rising first)

pub returns-in-None-clause-ok : goal.returns-in-None-clause-ok
returns-in-None-clause-ok c =
    let sorted = c.sort_unstable_by_key.new.self.items in
    let rising : Rises (connections_of sorted) = rises (λ (link : Link). link.connection) _ (IsNonDecreasingBy-from_sort_by_key (λ (link : Link). link.connection) _ c.sort_unstable_by_key.ensures.sorted (λ a r q k. search rules)) in
    let moved = IsPermutation-map (λ (link : Link). link.connection) _ _ c.sort_unstable_by_key.ensures.permutation in
    let few : length c.args.links.items ≤ link_limit = omega arith in
    let first : first_same None (connections_of sorted) ≡ None = ap (λ (links : List Link). first_same None (connections_of links)) (sym c.deref.ensures.value) ∙ sym c.repeated_connection.ensures ∙ c.in-None.is in
    few_enough link_limit (length c.args.links.items) TooManyLinks _ few ∙ ap (option_map SameLink) (none_found (connections_of c.args.links.items) _ moved rising first)

pub returns-in-None-clause-rising : goal.returns-in-None-clause-rising
returns-in-None-clause-rising c =
    let sorted = c.sort_unstable_by_key.new.self.items in
    let rising : Rises (connections_of sorted) = rises (λ (link : Link). link.connection) _ (IsNonDecreasingBy-from_sort_by_key (λ (link : Link). link.connection) _ c.sort_unstable_by_key.ensures.sorted (λ a r q k. search rules)) in
    let first : first_same None (connections_of sorted) ≡ None = ap (λ (links : List Link). first_same None (connections_of links)) (sym c.deref.ensures.value) ∙ sym c.repeated_connection.ensures ∙ c.in-None.is in
    strictly (connections_of sorted) rising first
