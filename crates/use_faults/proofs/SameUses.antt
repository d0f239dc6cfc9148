-- Uses that are the same, and those that are wrong.
use Rattle.std.proofs.Common.{◌≡◌, ℕ, eqb, Bool, true, false, not, ◌&&◌, List, [], ◌∷◌, ◌++◌, map, filter, flat_map, if◌then◌else◌, refl, ap, sym, ◌∙◌}
use Rattle.std.proofs.lemmas.Bool.{eqb-true}
use Rattle.std.proofs.lemmas.List.Folds.{flat_map-map}
use Rattle.jv_model.specs.Partial.{least}
use Rattle.jv_model.specs.ClassData.{ClassData}
use Rattle.jv_model.specs.LoadedClass.{LoadedClass}
use Rattle.world_model.specs.World.{World}
use Rattle.link_model.specs.Uses as model
use Rattle.link_model.specs.Uses.{uses_of}
use Rattle.link_model.specs.UseFaults.{resolves, wrong_uses}
use Rattle.class_faults.specs.Uses.{used_of, uses_in, HaveOneLeast}
use Rattle.class_faults.specs.declared.uses.Use.{Use}
use Rattle.class_faults.specs.declared.uses.Use.TheVariants.{Superclass, Interface, FieldDescriptor, MethodDescriptor, Field, Method, New, ReferenceType}
use Rattle.class_faults.specs.declared.uses.Used.{Used}
use Rattle.class_faults.specs.contracts.uses.UsePartialEq.TheImpl as use_eq
use Rattle.class_faults.specs.contracts.uses.UsedPartialEq.TheImpl as used_eq
use Rattle.use_faults.specs.Wrong.{wrong_index, wrong_read}

use_sound : (a b : Use) → (use_eq.eq-value).it a b ≡ true → a ≡ b
use_sound Superclass Superclass is = refl
use_sound Superclass other is = absurd cc
use_sound Interface Interface is = refl
use_sound Interface other is = absurd cc
use_sound FieldDescriptor FieldDescriptor is = refl
use_sound FieldDescriptor other is = absurd cc
use_sound MethodDescriptor MethodDescriptor is = refl
use_sound MethodDescriptor other is = absurd cc
use_sound (Field true) (Field true) is = refl
use_sound (Field true) (Field false) is = absurd cc
use_sound (Field false) (Field true) is = absurd cc
use_sound (Field false) (Field false) is = refl
use_sound (Field a) other is = absurd cc
use_sound (Method true) (Method true) is = refl
use_sound (Method true) (Method false) is = absurd cc
use_sound (Method false) (Method true) is = absurd cc
use_sound (Method false) (Method false) is = refl
use_sound (Method a) other is = absurd cc
use_sound New New is = refl
use_sound New other is = absurd cc
use_sound ReferenceType ReferenceType is = refl
use_sound ReferenceType other is = absurd cc

both : (s t : Bool) → (s && t) ≡ true → (s ≡ true) × (t ≡ true)
both true t is = (refl, is)
both false t is = absurd cc

pub sound : (a b : Used) → (used_eq.eq-value).it a b ≡ true → a ≡ b
sound a b is =
    let same : (eqb a.index b.index && (use_eq.eq-value).it a.use_as b.use_as) ≡ true = is in
    let parts = both (eqb a.index b.index) ((use_eq.eq-value).it a.use_as b.use_as) same in
    let index = eqb-true a.index b.index parts.0 in
    let use_as = use_sound a.use_as b.use_as parts.1 in
    λ i. record { index = index i; use_as = use_as i }

-- ---- the indices of wrong uses

wrong_by : (b : Bool) (used : model.Used) (rest : List model.Used) (indices : List ℕ)
    → map (λ (u : model.Used). u.index) rest ≡ indices
    → map (λ (u : model.Used). u.index) (if not b then used ∷ rest else rest)
    ≡ (if b then [] else used.index ∷ []) ++ indices
wrong_by true used rest indices is = is
wrong_by false used rest indices is = ap (λ (l : List ℕ). used.index ∷ l) is

wrong_each : (world : World) (file : ClassData) (uses : List model.Used)
    → map (λ (u : model.Used). u.index) (filter (λ (u : model.Used). not (resolves world file u.index u.use_as)) uses)
    ≡ flat_map (wrong_index world file) uses
wrong_each world file [] = refl
wrong_each world file (used ∷ uses) =
    wrong_by (resolves world file used.index used.use_as) used
    (filter (λ (u : model.Used). not (resolves world file u.index u.use_as)) uses) _ (wrong_each world file uses)

pub wrong_all : (world : World) (loaded : LoadedClass) (uses : List Used) → HaveOneLeast (uses_in uses) (uses_of loaded)
    → least (flat_map (wrong_read world loaded.file) uses)
    ≡ least (map (λ (u : model.Used). u.index) (wrong_uses world loaded))
wrong_all world loaded uses are =
    ap least (sym (flat_map-map (wrong_index world loaded.file) used_of uses))
    ∙ are (wrong_index world loaded.file)
    ∙ ap least (sym (wrong_each world loaded.file (uses_of loaded)))

-- a use that doesn't resolve, and one that does
pub wrong_here : (world : World) (file : ClassData) (used : Used) (does : Bool)
    → does ≡ resolves world file (used_of used).index (used_of used).use_as → does ≡ false
    → wrong_read world file used ≡ used.index ∷ []
wrong_here world file used does told wrong =
    ap (λ (t : Bool). if t then [] else used.index ∷ []) (sym told ∙ wrong)

pub right_here : (world : World) (file : ClassData) (used : Used) (does : Bool)
    → does ≡ resolves world file (used_of used).index (used_of used).use_as → does ≡ true
    → wrong_read world file used ≡ []
right_here world file used does told right =
    ap (λ (t : Bool). if t then [] else used.index ∷ []) (sym told ∙ right)
