use Rattle.std.proofs.Common.{◌≡◌, ◌+◌, ◌≤◌, ◌++◌, ◌∙◌, ℕ, List, [], length, take, Option, Some, None, IfOk, IfSome, Result, Ok, Err, option_map, arith, ap, length-take}
use Rattle.std.proofs.lemmas.Grind.{common_steps}
use Rattle.host_files.specs.declared.file.TheConstants.{LIMIT}
use Rattle.host_files.proofs.file.read_all.Goals as goal

take_all : (n : ℕ) (xs : List ℕ) → length xs ≤ n → take n xs ≡ xs
take_all n xs h = grind (arith, common_steps)

-- what stops before the limit is all
whole : (known : Option (List ℕ)) (limit : ℕ) (start got bytes : List ℕ) → start ≡ [] → bytes ≡ got → length bytes ≤ limit
    → IfSome (option_map (take (limit + 1)) known) (λ xs. got ≡ start ++ xs) → IfSome known (λ all. bytes ≡ all)
whole None limit start got bytes none same small is = tt
whole (Some all) limit start got bytes none same small is =
    let cut : bytes ≡ take (limit + 1) all = same ∙ is ∙ ap (λ s. s ++ take (limit + 1) all) none in
    let fits : length all ≤ limit = omega (arith, length-take (limit + 1) all, ap length cut) in
    cut ∙ take_all (limit + 1) all (omega arith)

whole_of : {E : Type 0} (known : Option (List ℕ)) (limit : ℕ) (start got : List ℕ) (result : Result (List ℕ) E) → start ≡ []
    → IfOk result (λ kept. length kept ≤ limit) → IfOk result (λ kept. kept ≡ got)
    → IfSome (option_map (take (limit + 1)) known) (λ xs. got ≡ start ++ xs) → IfOk result (λ bytes. IfSome known (λ all. bytes ≡ all))
whole_of known limit start got (Ok bytes) none small same is = whole known limit start got bytes none same small is
whole_of known limit start got (Err fault) none small same is = tt

pub returns-in-Ok-clause-whole : goal.returns-in-Ok-clause-whole
returns-in-Ok-clause-whole g c =
    whole_of (g.R.Read.remaining c.args.reader) LIMIT c.in_ok-bytes.bytes.items c.read_to_end.new.buf.items c.within_limit.result
    c.in_ok-bytes.ensures.items c.within_limit.ensures.limit c.within_limit.ensures.whole
    (rw (c.take.ensures.limit, c.take.ensures.inner) at c.in-Ok.ensures.bytes)
