-- The graphs of the worked cases fulfil every file rule. Assumes nothing.
use Prim.Native.Nat.{ℕ, zero, suc}
use mathlib.Core.Path.{refl}
use mathlib.Core.Logic.{inl, inr}
use mathlib.Core.List.{List, flatten, Memᴰ}
use native.Mathlib.Omega.{arith}
use Rattle.wire.specs.Letters.{is_letter, letter_of}
use Rattle.graph.specs.Good.{All, Next, Vertex, GoodGraph}
use Rattle.cover.specs.Worked.{g1, g2}

pub g1-good : GoodGraph g1
unfolding All Next flatten is_letter letter_of
g1-good = record {
  some_vertex = omega arith;
  few_vertices = omega arith;
  some_letter = (omega arith, (omega arith, (omega arith, (omega arith, tt))));
  few_letters = omega arith;
  letters = ((refl, (refl, tt)), ((refl, tt), ((refl, (refl, tt)), ((refl, (refl, tt)), tt))));
  few_edges = omega arith;
  edge_ends = (((omega arith, omega arith), (omega arith, omega arith)), (((omega arith, omega arith), (omega arith, omega arith)), (((omega arith, omega arith), (omega arith, omega arith)), (((omega arith, omega arith), (omega arith, omega arith)), tt))));
  edges_rise = (inr (refl, omega arith), (inl (omega arith), (inl (omega arith), tt)));
  some_path = omega arith;
  few_paths = omega arith;
  path_lengths = ((omega arith, omega arith), ((omega arith, omega arith), tt));
  path_vertices = (((omega arith, omega arith), ((omega arith, omega arith), ((omega arith, omega arith), tt))), (((omega arith, omega arith), ((omega arith, omega arith), ((omega arith, omega arith), tt))), tt));
  paths_rise = ((omega arith, (omega arith, tt)), ((omega arith, (omega arith, tt)), tt));
  path_steps = ((Memᴰ.head refl, (Memᴰ.tail (Memᴰ.tail (Memᴰ.head refl)), tt)), ((Memᴰ.tail (Memᴰ.head refl), (Memᴰ.tail (Memᴰ.tail (Memᴰ.tail (Memᴰ.head refl))), tt)), tt));
  covered = on;
}
  where
    on : (v : ℕ) → Vertex 4 v → (p : List ℕ) × Memᴰ p g1.paths × Memᴰ v p
    on zero w = absurd (omega arith)
    on (suc zero) w = (_, Memᴰ.head refl, Memᴰ.head refl)
    on (suc (suc zero)) w = (_, Memᴰ.head refl, Memᴰ.tail (Memᴰ.head refl))
    on (suc (suc (suc zero))) w = (_, Memᴰ.tail (Memᴰ.head refl), Memᴰ.tail (Memᴰ.head refl))
    on (suc (suc (suc (suc zero)))) w = (_, Memᴰ.head refl, Memᴰ.tail (Memᴰ.tail (Memᴰ.head refl)))
    on (suc (suc (suc (suc (suc v))))) w = absurd (omega arith)

pub g2-good : GoodGraph g2
unfolding All Next flatten is_letter letter_of
g2-good = record {
  some_vertex = omega arith;
  few_vertices = omega arith;
  some_letter = (omega arith, (omega arith, (omega arith, tt)));
  few_letters = omega arith;
  letters = ((refl, tt), ((refl, (refl, tt)), ((refl, tt), tt)));
  few_edges = omega arith;
  edge_ends = (((omega arith, omega arith), (omega arith, omega arith)), (((omega arith, omega arith), (omega arith, omega arith)), (((omega arith, omega arith), (omega arith, omega arith)), tt)));
  edges_rise = (inl (omega arith), (inl (omega arith), tt));
  some_path = omega arith;
  few_paths = omega arith;
  path_lengths = ((omega arith, omega arith), tt);
  path_vertices = (((omega arith, omega arith), ((omega arith, omega arith), ((omega arith, omega arith), tt))), tt);
  paths_rise = ((omega arith, (omega arith, tt)), tt);
  path_steps = ((Memᴰ.head refl, (Memᴰ.tail (Memᴰ.head refl), tt)), tt);
  covered = on;
}
  where
    on : (v : ℕ) → Vertex 3 v → (p : List ℕ) × Memᴰ p g2.paths × Memᴰ v p
    on zero w = absurd (omega arith)
    on (suc zero) w = (_, Memᴰ.head refl, Memᴰ.head refl)
    on (suc (suc zero)) w = (_, Memᴰ.head refl, Memᴰ.tail (Memᴰ.head refl))
    on (suc (suc (suc zero))) w = (_, Memᴰ.head refl, Memᴰ.tail (Memᴰ.tail (Memᴰ.head refl)))
    on (suc (suc (suc (suc v)))) w = absurd (omega arith)
