-- Small rounds, computed: three entries, a rule of each kind. Assumes nothing.
use mathlib.Core.Path.{◌≡◌}
use mathlib.Core.List.{List, [], ◌∷◌}
use Prim.Native.Nat.{ℕ, ◌+◌, ◌-◌, ◌*◌}
use native.Mathlib.Decide.{ℕ_discrete}
use native.Mathlib.Nat.{le_refl}
use lib.ListN.{get_or, length}
use Rattle.rounds.specs.Rounds.{sweep, Rounds}
use Rattle.rounds.specs.Gather.{gather}
use Rattle.rounds.specs.Rule.{Links, value}
use Rattle.rounds.specs.Table.{cell_step, row_step, table_round, vector_round}
use Rattle.rounds.specs.Kinds.{greatest_rule, least_rule, score_rule, shift, closer}
use Rattle.rounds.proofs.Counts.{run_shows, run, list?}

-- the e-th number of a list
abbrev nth : List ℕ → ℕ → ℕ
nth l e = get_or l (e - 1) 0

-- link e goes from the e-th of one list into the e-th of the other
abbrev linked : List ℕ → List ℕ → Links
linked sources ends = record { m = length sources; source = nth sources; Into = λ v e. nth ends e ≡ v; into? = λ v e. ℕ_discrete (nth ends e) v }

-- 1 to 2 to 3, the greatest: in place, the first round carries 5 all the way; the second is quiet
abbrev onward : List ℕ → List ℕ
onward = vector_round (greatest_rule (linked (1 ∷ 2 ∷ []) (2 ∷ 3 ∷ []))) 3

in_place : Rounds onward (5 ∷ 0 ∷ 0 ∷ []) 2 (5 ∷ 5 ∷ 5 ∷ [])
unfolding run sweep cell_step value gather ℕ_discrete list?
in_place = run_shows onward (list? ℕ_discrete) 3 (5 ∷ 0 ∷ 0 ∷ []) (le_refl 3)

-- 3 to 2 to 1: one step in each round, and the quiet round is round 3, which is n
abbrev backward : List ℕ → List ℕ
backward = vector_round (greatest_rule (linked (2 ∷ 3 ∷ []) (1 ∷ 2 ∷ []))) 3

as_many_as_entries : Rounds backward (0 ∷ 0 ∷ 5 ∷ []) 3 (5 ∷ 5 ∷ 5 ∷ [])
unfolding run sweep cell_step value gather ℕ_discrete list?
as_many_as_entries = run_shows backward (list? ℕ_discrete) 4 (0 ∷ 0 ∷ 5 ∷ []) (le_refl 4)

-- nothing to change: the one round is the quiet one
quiet_at_once : Rounds backward (5 ∷ 5 ∷ 5 ∷ []) 1 (5 ∷ 5 ∷ 5 ∷ [])
unfolding run sweep cell_step value gather ℕ_discrete list?
quiet_at_once = run_shows backward (list? ℕ_discrete) 2 (5 ∷ 5 ∷ 5 ∷ []) (le_refl 2)

-- a table of two columns has one count: here column 1 is quiet from the start, and column 2 takes three rounds
abbrev both : List ℕ → List ℕ
both = table_round (λ v i. 2 * (v - 1) + i - 1) (λ _. greatest_rule (linked (2 ∷ 3 ∷ []) (1 ∷ 2 ∷ []))) 2 3

one-count : Rounds both (7 ∷ 0 ∷ 7 ∷ 0 ∷ 7 ∷ 5 ∷ []) 3 (7 ∷ 5 ∷ 7 ∷ 5 ∷ 7 ∷ 5 ∷ [])
unfolding run sweep row_step cell_step value gather ℕ_discrete list?
one-count = run_shows both (list? ℕ_discrete) 4 (7 ∷ 0 ∷ 7 ∷ 0 ∷ 7 ∷ 5 ∷ []) (le_refl 4)

-- the least: 1 to 2 is 2 long, 2 to 3 is 1, 1 to 3 is 5. Entry 1 starts at 0 and the others unknown, each number here being one more: the distances are 0 2 3
abbrev nearest : List ℕ → List ℕ
nearest = vector_round (least_rule (linked (1 ∷ 2 ∷ 1 ∷ []) (2 ∷ 3 ∷ 3 ∷ [])) (nth (2 ∷ 1 ∷ 5 ∷ []))) 3

known-one_by_one : Rounds nearest (1 ∷ 0 ∷ 0 ∷ []) 2 (1 ∷ 3 ∷ 4 ∷ [])
unfolding run sweep cell_step value gather ℕ_discrete list? shift closer
known-one_by_one = run_shows nearest (list? ℕ_discrete) 3 (1 ∷ 0 ∷ 0 ∷ []) (le_refl 3)

-- scores: weights 2 2 1; 1 to 3 and 3 to 2 with no gaps, 1 to 2 with gaps of 2. Entry 2 gets 3 in the first round and 5 in the second; the third is quiet
abbrev scoring : List ℕ → List ℕ
scoring = vector_round (score_rule (linked (1 ∷ 3 ∷ 1 ∷ []) (3 ∷ 2 ∷ 2 ∷ [])) (nth (2 ∷ 2 ∷ 1 ∷ [])) (λ e v. nth (0 ∷ 0 ∷ 2 ∷ []) e)) 3

not-after-one-round : Rounds scoring (2 ∷ 2 ∷ 1 ∷ []) 3 (2 ∷ 5 ∷ 3 ∷ [])
unfolding run sweep cell_step value gather ℕ_discrete list?
not-after-one-round = run_shows scoring (list? ℕ_discrete) 4 (2 ∷ 2 ∷ 1 ∷ []) (le_refl 4)
