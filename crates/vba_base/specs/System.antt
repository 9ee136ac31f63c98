-- Serves the code: a sink of the system.
use Rattle.std.specs.Prelude.{ℕ, List, Option}

-- how many puts failed, and the bytes that the writer holds, where it tells them
pub record SystemSink : Type 0 where
  pub faults : ℕ
  pub contents : Option (List ℕ)
