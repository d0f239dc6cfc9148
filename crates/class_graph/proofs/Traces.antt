-- How a walk lists the nodes in the order of an unfolding: what is listed, and what stands on the stack.
use Rattle.std.proofs.Common.{◌≡◌, ℕ, ◌<◌, Bool, true, false, cond, if◌then◌else◌, List, [], ◌∷◌, ◌++◌, flat_map, IsTrue, ◌⊎◌, inl, inr, ap, sym, subst, ◌∙◌, refl, arith}
use Rattle.std.proofs.lemmas.Grind.{flat_map-append}
use Rattle.std.proofs.lemmas.List.{append_assoc, append-nil}
use Rattle.class_graph.specs.Graph.{is_in, once}
use Rattle.class_graph.proofs.Sets.{in_none, in_head, in_tail, in_cons, in_cases, in_left, in_right}

-- ---- each once

-- what was seen already changes nothing
pub once-skip : (seen ys xs : List ℕ) → ((z : ℕ) → IsTrue (is_in ys z) → IsTrue (is_in seen z)) → once seen (ys ++ xs) ≡ once seen xs
unfolding once
once-skip seen [] xs all = refl
once-skip seen (y ∷ ys) xs all =
    ap (λ (b : Bool). if b then once seen (ys ++ xs) else y ∷ once (seen ++ y ∷ []) (ys ++ xs)) (all y (in_head y ys))
    ∙ once-skip seen ys xs (λ z h. all z (in_tail y ys z h))

once-own : (listed : Bool) (seen : List ℕ) (x : ℕ) (rest : List ℕ) → is_in seen x ≡ false
    → seen ++ once seen (cond listed (x ∷ []) [] ++ rest)
    ≡ (seen ++ cond listed (x ∷ []) []) ++ once (seen ++ cond listed (x ∷ []) []) rest
unfolding once
once-own false seen x rest new = ap (λ (s : List ℕ). s ++ once s rest) (sym (append-nil seen))
once-own true seen x rest new =
    ap (λ (b : Bool). seen ++ (if b then once seen rest else x ∷ once (seen ++ x ∷ []) rest)) new
    ∙ sym (append_assoc seen (x ∷ []) (once (seen ++ x ∷ []) rest))

module _ (unfolding_of : ℕ → List ℕ) (rank : ℕ → ℕ) where
  -- What a node that was met unfolds to is listed, but for that of the nodes on top of the stack, which are below it.
  pub record IsOpen (seen stack : List ℕ) (node : ℕ) : Type 0 where
    pub top : List ℕ
    pub rest : List ℕ
    pub splits : stack ≡ top ++ rest
    pub lower : (z : ℕ) → IsTrue (is_in top z) → rank z < rank node
    pub covered : (z : ℕ) → IsTrue (is_in (unfolding_of node) z)
        → IsTrue (is_in seen z) ⊎ IsTrue (is_in (flat_map unfolding_of top) z)

  -- a node that was met and stands on top of the stack is done
  done_by : (seen : List ℕ) (x : ℕ) (s top rest : List ℕ) → x ∷ s ≡ top ++ rest
      → ((z : ℕ) → IsTrue (is_in top z) → rank z < rank x)
      → ((z : ℕ) → IsTrue (is_in (unfolding_of x) z) → IsTrue (is_in seen z) ⊎ IsTrue (is_in (flat_map unfolding_of top) z))
      → (z : ℕ) → IsTrue (is_in (unfolding_of x) z) → IsTrue (is_in seen z)
  done_by seen x s [] rest splits lower covered z h = elim (covered z h) [
    | inl there ↦ there
    | inr none ↦ absurd (in_none z none)
  ]
  done_by seen x s (a ∷ top) rest splits lower covered z h =
      let same : a ≡ x = cc in
      let falls : rank x < rank x = subst (λ (n : ℕ). rank n < rank x) same (lower a (in_head a top)) in
      absurd (omega arith)

  pub is_done : (seen : List ℕ) (x : ℕ) (s : List ℕ) → IsOpen seen (x ∷ s) x
      → (z : ℕ) → IsTrue (is_in (unfolding_of x) z) → IsTrue (is_in seen z)
  is_done seen x s open_ = done_by seen x s open_.top open_.rest open_.splits open_.lower open_.covered

  -- it leaves the stack
  skipped_by : (seen : List ℕ) (x : ℕ) (s : List ℕ) (y : ℕ)
      → ((z : ℕ) → IsTrue (is_in (unfolding_of x) z) → IsTrue (is_in seen z))
      → (top rest : List ℕ) → x ∷ s ≡ top ++ rest
      → ((z : ℕ) → IsTrue (is_in top z) → rank z < rank y)
      → ((z : ℕ) → IsTrue (is_in (unfolding_of y) z) → IsTrue (is_in seen z) ⊎ IsTrue (is_in (flat_map unfolding_of top) z))
      → IsOpen seen s y
  skipped_by seen x s y all [] rest splits lower covered =
      record { top = []; rest = s; splits = refl; lower = lower; covered = covered }
  skipped_by seen x s y all (a ∷ top) rest splits lower covered =
      let same : a ≡ x = cc in
      record {
        top = top;
        rest = rest;
        splits = cc;
        lower = λ z h. lower z (in_tail a top z h);
        covered = λ z h. elim (covered z h) [
          | inl there ↦ inl there
          | inr more ↦ elim (in_cases (unfolding_of a) (flat_map unfolding_of top) z more) [
            | inl own ↦ inl (all z (subst (λ (n : ℕ). IsTrue (is_in (unfolding_of n) z)) same own))
            | inr other ↦ inr other
          ]
        ];
      }

  -- A node that is met for the first time gives way to its children.
  grown_by : (seen own children : List ℕ) (x : ℕ) (s : List ℕ) (y : ℕ) → unfolding_of x ≡ own ++ flat_map unfolding_of children
      → ((z : ℕ) → IsTrue (is_in children z) → rank z < rank x)
      → (top rest : List ℕ) → x ∷ s ≡ top ++ rest
      → ((z : ℕ) → IsTrue (is_in top z) → rank z < rank y)
      → ((z : ℕ) → IsTrue (is_in (unfolding_of y) z) → IsTrue (is_in seen z) ⊎ IsTrue (is_in (flat_map unfolding_of top) z))
      → IsOpen (seen ++ own) (children ++ s) y
  grown_by seen own children x s y unfolds falls [] rest splits lower covered = record {
    top = [];
    rest = children ++ s;
    splits = refl;
    lower = lower;
    covered = λ z h. elim (covered z h) [
      | inl there ↦ inl (in_left seen own z there)
      | inr none ↦ absurd (in_none z none)
    ];
  }
  grown_by seen own children x s y unfolds falls (a ∷ top) rest splits lower covered =
      let same : a ≡ x = cc in
      let left : s ≡ top ++ rest = cc in
      let below : rank x < rank y = subst (λ (n : ℕ). rank n < rank y) same (lower a (in_head a top)) in
      record {
        top = children ++ top;
        rest = rest;
        splits = ap (λ (l : List ℕ). children ++ l) left ∙ sym (append_assoc children top rest);
        lower = λ z h. elim (in_cases children top z h) [
          | inl child ↦ let falls_z : rank z < rank x = falls z child in omega arith
          | inr other ↦ lower z (in_tail a top z other)
        ];
        covered = λ z h. elim (covered z h) [
          | inl there ↦ inl (in_left seen own z there)
          | inr more ↦ elim (in_cases (unfolding_of a) (flat_map unfolding_of top) z more) [
            | inl of_a ↦
                let of_x = subst (λ (l : List ℕ). IsTrue (is_in l z)) (ap unfolding_of same ∙ unfolds) of_a in
                elim (in_cases own (flat_map unfolding_of children) z of_x) [
                  | inl mine ↦ inl (in_right seen own z mine)
                  | inr theirs ↦ inr (subst (λ (l : List ℕ). IsTrue (is_in l z)) (sym (flat_map-append unfolding_of children top)) (in_left _ _ z theirs))
                ]
            | inr other ↦ inr (subst (λ (l : List ℕ). IsTrue (is_in l z)) (sym (flat_map-append unfolding_of children top)) (in_right (flat_map unfolding_of children) _ z other))
          ]
        ];
      }

  -- What was listed so far, and then what the stack unfolds to, is what the start unfolds to.
  pub record IsTrace (start : ℕ) (seen met stack : List ℕ) : Type 0 where
    pub lists : seen ++ once seen (flat_map unfolding_of stack) ≡ once [] (unfolding_of start)
    pub open_ : (y : ℕ) → IsTrue (is_in met y) → IsOpen seen stack y

  pub trace_begins : (start : ℕ) → IsTrace start [] [] (start ∷ [])
  trace_begins start = record {
    lists = ap (once []) (append-nil (unfolding_of start));
    open_ = λ y h. absurd (in_none y h);
  }

  pub trace_skips : (start x : ℕ) (seen met s : List ℕ) → IsTrue (is_in met x) → IsTrace start seen met (x ∷ s)
      → IsTrace start seen met s
  trace_skips start x seen met s there trace =
      let all = is_done seen x s (trace.open_ x there) in
      record {
        lists = ap (λ (l : List ℕ). seen ++ l) (sym (once-skip seen (unfolding_of x) (flat_map unfolding_of s) all)) ∙ trace.lists;
        open_ = λ y h.
            let was = trace.open_ y h in
            skipped_by seen x s y all was.top was.rest was.splits was.lower was.covered;
      }

  pub trace_grows : (start x : ℕ) (listed : Bool) (seen met children s : List ℕ) → is_in seen x ≡ false
      → unfolding_of x ≡ cond listed (x ∷ []) [] ++ flat_map unfolding_of children
      → ((z : ℕ) → IsTrue (is_in children z) → rank z < rank x)
      → IsTrace start seen met (x ∷ s)
      → IsTrace start (seen ++ cond listed (x ∷ []) []) (met ++ x ∷ []) (children ++ s)
  trace_grows start x listed seen met children s new unfolds falls trace =
      let own = cond listed (x ∷ []) [] in
      let behind = flat_map unfolding_of (children ++ s) in
      let joined : unfolding_of x ++ flat_map unfolding_of s ≡ own ++ behind =
      ap (λ (l : List ℕ). l ++ flat_map unfolding_of s) unfolds
      ∙ append_assoc own (flat_map unfolding_of children) (flat_map unfolding_of s)
      ∙ ap (λ (l : List ℕ). own ++ l) (sym (flat_map-append unfolding_of children s)) in
      record {
        lists = sym (once-own listed seen x behind new) ∙ ap (λ (l : List ℕ). seen ++ once seen l) (sym joined) ∙ trace.lists;
        open_ = λ y h. elim (in_cases met (x ∷ []) y h) [
          | inl before ↦
              let was = trace.open_ y before in
              grown_by seen own children x s y unfolds falls was.top was.rest was.splits was.lower was.covered
          | inr now ↦ elim (in_cons x [] y now) [
            | inl same ↦ record {
              top = children;
              rest = s;
              splits = refl;
              lower = λ z child. subst (λ (n : ℕ). rank z < rank n) (sym same) (falls z child);
              covered = λ z of_y.
                  let of_x = subst (λ (l : List ℕ). IsTrue (is_in l z)) (ap unfolding_of same ∙ unfolds) of_y in
                  elim (in_cases own (flat_map unfolding_of children) z of_x) [
                    | inl mine ↦ inl (in_right seen own z mine)
                    | inr theirs ↦ inr theirs
                  ];
            }
            | inr none ↦ absurd (in_none y none)
          ]
        ];
      }
