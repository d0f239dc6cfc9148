-- The words of a command as the definitions see them.
use Rattle.std.specs.Prelude.{ℕ, List, map}
use Rattle.std.specs.Borrow.{Bor}
use Rattle.jvolve_top.specs.declared.words.Invocation.{Invocation}
use Rattle.jvolve_top.specs.declared.words.Invocation.TheVariants.{Run, Check, Asm}
use Rattle.run_model.specs.Invocation as model

abbrev pub invocation_view : Invocation → model.Invocation
invocation_view (Run manifest) = model.run_of manifest.now
invocation_view (Check manifest) = model.check_of manifest.now
invocation_view (Asm file) = model.asm_of file.now

-- the bytes of words that are lent
abbrev pub words_view : List (Bor (List ℕ)) → List (List ℕ)
words_view words = map (λ word. word.now) words
