-- What a pass knows of the handlers of a method.
use Rattle.std.proofs.Common.{◌≡◌, ℕ, ◌==◌, true, List, [], ◌∷◌, length, ap, sym, subst, ◌∙◌, refl, arith, ⊎_elim}
use Rattle.std.specs.List.{list_any}
use Rattle.std.proofs.lemmas.Bool.Decides.{eqb_tells}
use Rattle.std.specs.List.Sorted.{IsPermutation}
use Rattle.std.proofs.lemmas.List.Sorted.{list_any-IsPermutation}
use Rattle.code_model.specs.Names.{named_handler}
use Rattle.typing_model.specs.Environment.{Environment}
use Rattle.typing_model.specs.Rules.{misfits}
use Rattle.jv_types.specs.ClassData.{pool_of}
use Rattle.jv_types.specs.Code.{handler_of}
use Rattle.jv_types.specs.declared.code.Handler.{Handler}
use Rattle.type_rules.specs.Frames.{Types, frame_of}
use Rattle.stackmap_verify.specs.declared.method.Method.{Method}
use Rattle.stackmap_verify.specs.Cover.{CoversAt}
use Rattle.stackmap_verify.specs.Methods.{IsMethod}
use Rattle.stackmap_verify.specs.Watch.{misfits_locals}
use Rattle.stackmap_verify.proofs.Caught.{any_handler}

pub no_items : {A : Type 0} (xs : List A) → (length xs == 0) ≡ true → xs ≡ []
no_items [] none = refl
no_items (x ∷ xs) none =
    ⊎_elim (λ t. absurd (omega (arith, t.1))) (λ f. let never = sym none ∙ f.0 in absurd cc) (eqb_tells (length (x ∷ xs)) 0)

-- a handler of the method misfits just where one of the rows does that are left
pub told_by : (method : Method) (e : Environment) → IsMethod method e → (pc place : ℕ) (frame : Types) (before rows others : List Handler)
    → IsPermutation method.code.now.body.now.handlers.items before → rows ≡ before → place ≡ pc
    → CoversAt (misfits_locals method e frame.locals) rows place others
    → list_any (λ (h : Handler). misfits e pc (frame_of method.world.now frame) (named_handler (pool_of method.code.now.pool.now) (handler_of h))) others
    ≡ list_any (misfits e pc (frame_of method.world.now frame)) e.body.handlers
told_by method e is pc place frame before rows others permutation same at covers =
    let pool = pool_of method.code.now.pool.now in
    let wrongs = λ (h : Handler). misfits e pc (frame_of method.world.now frame) (named_handler pool (handler_of h)) in
    let here : CoversAt (misfits_locals method e frame.locals) rows pc others =
    subst (λ (p : ℕ). CoversAt (misfits_locals method e frame.locals) rows p others) at covers in
    sym here ∙ ap (list_any wrongs) same
    ∙ sym (list_any-IsPermutation wrongs method.code.now.body.now.handlers.items before permutation)
    ∙ sym (any_handler method e is (misfits e pc (frame_of method.world.now frame)))
