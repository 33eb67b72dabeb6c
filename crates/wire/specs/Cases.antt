-- A choice by a test.
use Rattle.std.specs.Prelude.{Bool, true, false}

-- the first where the test holds, else the second
abbrev pub pick {ℓ} : {X : Type ℓ} → Bool → X → X → X
pick true x y = x
pick false x y = y
