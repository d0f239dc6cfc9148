-- What rules read of a frame.
use Rattle.std.proofs.Common.{◌≡◌, ℕ, List, Option, Some, slice_get, option_map, ap, sym, subst, ◌∙◌}
use Rattle.std.proofs.lemmas.Option.{slice_get-map, slice_get_within, get_or_from_slice_get}
use Rattle.jv_model.specs.Partial.{◌>>=◌}
use Rattle.world_model.specs.World.{World}
use Rattle.typing_model.specs.VerificationType as model
use Rattle.typing_model.specs.VerificationType.{TypeFrame}
use Rattle.type_rules.specs.declared.types.VerificationType.{VerificationType}
use Rattle.type_rules.specs.Types.{type_of, IsKnownType}
use Rattle.type_rules.specs.Frames.{types_of, AreKnown}

-- a rule that begins with a read
pub read-first : (world : World) (types : List VerificationType) (n : ℕ) (found : Option VerificationType)
    (rule : model.VerificationType → Option TypeFrame) → found ≡ slice_get types n
    → (slice_get (types_of world types) n >>= rule) ≡ (option_map (type_of world) found >>= rule)
read-first world types n found rule is =
    ap (λ (o : Option model.VerificationType). o >>= rule)
    (slice_get-map (type_of world) types n ∙ ap (option_map (type_of world)) (sym is))

pub known-at : (world : World) (types : List VerificationType) (n : ℕ) (type : VerificationType) → AreKnown world types
    → slice_get types n ≡ Some type → IsKnownType world type
known-at world types n type known at =
    subst (IsKnownType world) (get_or_from_slice_get types n type type at) (known n type (slice_get_within types n type at))
