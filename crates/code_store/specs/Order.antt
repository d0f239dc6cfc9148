-- How instructions stand in code that runs.
use Rattle.std.specs.Prelude.{◌+◌, ◌≤◌}
use Rattle.jv_model.specs.Limits.{most_frame_words}
use Rattle.jv_model.specs.Code.{Body}
pub use Rattle.jv_types.specs.Instructions.{Follows}

-- Code that can run: its instructions follow each other, and the words of its frame are no more
-- than a frame's may be.
pub record CanRun {A : Type 0} (code : Body A) : Type 0 where
  pub order : Follows 0 code.instructions
  pub words : code.max_locals + code.max_stack ≤ most_frame_words
