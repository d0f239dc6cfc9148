-- Lists of faults, noted one after another.
use Rattle.std.proofs.Common.{◌≡◌, List, ◌++◌, Option, None, ap, sym, ◌∙◌, append_assoc}
use Rattle.text_model.specs.LineFaults.{Fault, first_fault}
use Rattle.asm_parts.specs.Faults.{either}
use Rattle.asm_parts.proofs.FaultLemmas.{noted}

pub then_list : (told once twice : Option Fault) (fs gs : List Fault) → once ≡ either told (first_fault fs)
    → twice ≡ either once (first_fault gs) → twice ≡ either told (first_fault (fs ++ gs))
then_list told once twice fs gs a b = b ∙ ap (λ told. either told (first_fault gs)) a ∙ sym (noted told fs gs)

-- five lists, the second and the third of them together
pub five_lists : (told t1 t2 t3 t4 t5 : Option Fault) (a b d e f : List Fault)
    → t1 ≡ either told (first_fault a) → t2 ≡ either t1 (first_fault b) → t3 ≡ either t2 (first_fault d)
    → t4 ≡ either t3 (first_fault e) → t5 ≡ either t4 (first_fault f)
    → t5 ≡ either told (first_fault (((a ++ (b ++ d)) ++ e) ++ f))
five_lists told t1 t2 t3 t4 t5 a b d e f p q r s t =
    let two = then_list told t1 t2 a b p q in
    let three = then_list told t2 t3 (a ++ b) d two r in
    let same = three ∙ ap (λ faults. either told (first_fault faults)) (append_assoc a b d) in
    let four = then_list told t3 t4 (a ++ (b ++ d)) e same s in
    then_list told t4 t5 ((a ++ (b ++ d)) ++ e) f four t

pub three_lists : (told t1 t2 t3 : Option Fault) (a b d : List Fault)
    → t1 ≡ either told (first_fault a) → t2 ≡ either t1 (first_fault b) → t3 ≡ either t2 (first_fault d)
    → t3 ≡ either told (first_fault ((a ++ b) ++ d))
three_lists told t1 t2 t3 a b d p q r =
    then_list told t2 t3 (a ++ b) d (then_list told t1 t2 a b p q) r

-- all faults of a text, where none was noted before
pub whole_text : (start told : Option Fault) (faults : List Fault) → start ≡ None → told ≡ either start (first_fault faults)
    → first_fault faults ≡ told
whole_text start told faults is noted = sym (noted ∙ ap (λ told. either told (first_fault faults)) is)
