-- Texts that are the same.
use Rattle.std.proofs.Common.{◌≡◌, ℕ, eqb, Bool, true, false, ◌&&◌, refl, ap, sym, ◌∙◌, List, [], ◌∷◌, if◌then◌else◌}
use Rattle.jv_model.specs.ClassData.{Const}
use Rattle.jv_model.specs.ConstantPool.{units_at}
use Rattle.class_faults.specs.Descriptors.{spells, wrong_text}
use Rattle.std.proofs.lemmas.Bool.{eqb-true}
use Rattle.class_faults.specs.declared.descriptors.Form.{Form}
use Rattle.class_faults.specs.declared.descriptors.Form.TheVariants.{FieldType, MethodType, TypeName}
use Rattle.class_faults.specs.declared.descriptors.TextUse.{TextUse}
use Rattle.class_faults.specs.contracts.descriptors.FormPartialEq.TheImpl as form
use Rattle.class_faults.specs.contracts.descriptors.TextUsePartialEq.TheImpl as text

form_sound : (a b : Form) → (form.eq-value).it a b ≡ true → a ≡ b
form_sound FieldType FieldType is = refl
form_sound FieldType MethodType is = absurd cc
form_sound FieldType TypeName is = absurd cc
form_sound MethodType FieldType is = absurd cc
form_sound MethodType MethodType is = refl
form_sound MethodType TypeName is = absurd cc
form_sound TypeName FieldType is = absurd cc
form_sound TypeName MethodType is = absurd cc
form_sound TypeName TypeName is = refl

both : (s t : Bool) → (s && t) ≡ true → (s ≡ true) × (t ≡ true)
both true t is = (refl, is)
both false t is = absurd cc

pub sound : (a b : TextUse) → (text.eq-value).it a b ≡ true → a ≡ b
sound a b is =
    let same : (eqb a.index b.index && (form.eq-value).it a.form b.form) ≡ true = is in
    let parts = both (eqb a.index b.index) ((form.eq-value).it a.form b.form) same in
    let index = eqb-true a.index b.index parts.0 in
    let of_form = form_sound a.form b.form parts.1 in
    λ i. record { index = index i; form = of_form i }

-- a text that doesn't spell what it has to, and one that does
pub wrong_here : (pool : List Const) (text : TextUse) (units : List ℕ) (does : Bool)
    → units ≡ units_at pool text.index → does ≡ spells text.form units → does ≡ false
    → wrong_text pool text ≡ text.index ∷ []
wrong_here pool text units does is told wrong =
    ap (λ (t : Bool). if t then [] else text.index ∷ [])
    (ap (spells text.form) (sym is) ∙ sym told ∙ wrong)

pub right_here : (pool : List Const) (text : TextUse) (units : List ℕ) (does : Bool)
    → units ≡ units_at pool text.index → does ≡ spells text.form units → does ≡ true
    → wrong_text pool text ≡ []
right_here pool text units does is told right =
    ap (λ (t : Bool). if t then [] else text.index ∷ [])
    (ap (spells text.form) (sym is) ∙ sym told ∙ right)
