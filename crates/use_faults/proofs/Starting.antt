-- The method with which a program starts.
use Rattle.std.proofs.Common.{◌≡◌, ℕ, false, List, Option, Some, None, option_map, slice_get, refl, ap, sym, ◌∙◌}
use Rattle.std.specs.Prelude.{codes}
use Rattle.jv_model.specs.Partial.{passes}
use Rattle.world_model.specs.World.{Method, Class, World, class_in, declared_method, has_flag, acc_static}
use Rattle.link_model.specs.Link.{is_main}
use Rattle.jv_types.specs.declared.number.ClassNo.{ClassNo}
use Rattle.class_world.specs.World.{number_of}
use Rattle.use_faults.proofs.ByName.{class_at, no_class}

static_by : (declared : Option Method) → passes (has_flag acc_static) (option_map (λ (m : Method). m.flags) declared)
    ≡ passes (λ (m : Method). has_flag acc_static m.flags) declared
static_by None = refl
static_by (Some method) = refl

pub main_told : (world : World) (main : List ℕ) (class : ClassNo) (there : Class) (flags : Option ℕ)
    → Some class ≡ number_of world main → slice_get world.classes class.0 ≡ Some there
    → flags ≡ option_map (λ (m : Method). m.flags)
    (declared_method (codes "main") (codes "([Ljava/lang/String;)V") there)
    → passes (has_flag acc_static) flags ≡ passes is_main (class_in world main)
main_told world main class there flags is at told =
    ap (passes (has_flag acc_static)) told
    ∙ static_by (declared_method (codes "main") (codes "([Ljava/lang/String;)V") there)
    ∙ ap (passes is_main) (sym (class_at world main class is ∙ at))

pub no_main_class : (world : World) (main : List ℕ) → None ≡ number_of world main
    → false ≡ passes is_main (class_in world main)
no_main_class world main is = ap (passes is_main) (sym (no_class world main is))
