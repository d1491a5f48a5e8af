-- What the code for a face leaves, as a step of the build.
use Rattle.std.specs.Prelude.{ℕ, List, Result, Ok, Err}
use Rattle.refusal.specs.declared.Refusal.{Refusal}
use Rattle.refusal.specs.Refusal.{number_of}
use Rattle.builder_build.specs.Build.{SoFar, Course, refuse, go}
use Rattle.builder_faces.specs.declared.Added.{Added}

abbrev pub so_far : List ℕ → List ℕ → List ℕ → ℕ → ℕ → SoFar
so_far cv co vc n k = record { cv = cv; co = co; vc = vc; nc = n; skipped = k }

-- a refusal, or on with what is added and with the parts
abbrev pub stepped : Result Added Refusal → List ℕ → List ℕ → List ℕ → Course
stepped (Ok k) cv co vc = go (so_far cv co vc k.corners k.skipped)
stepped (Err e) cv co vc = refuse (number_of e)
