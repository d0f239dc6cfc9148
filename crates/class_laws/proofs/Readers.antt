-- Readers and spellings that belong together: what is read is spelled so, and what is spelled so is
-- read.
use Rattle.std.proofs.Common.{◌≡◌, ℕ, zero, suc, ◌+◌, ◌^◌, ◌<◌, Bool, true, false, IsTrue, List, [], ◌∷◌, ◌++◌, length, Option, Some, None, Result, Ok, refl, sym, ap, subst, append_assoc, length-append, arith}
use Rattle.std.specs.List.{flat_map, AllByRecursion}
use Rattle.std.proofs.lemmas.List.{append-nil}
use Rattle.std.proofs.lemmas.List.Concat.{flat_map-cons}
use Rattle.byteorder.specs.Endian.{big_bytes}
use Rattle.jv_model.specs.Refusal.{Cause}
use Rattle.jv_model.specs.Fallible.{◌>>=◌, unless, where_true}
use Rattle.jv_model.specs.Input.{Input, number_at, bytes_at}
use Rattle.jv_model.specs.ClassBytes.{u2, u4}
use Rattle.jv_model.specs.Profile.{IsU2, IsU4}
use Rattle.class_laws.proofs.Numbers.{IsBytes, Takes, Takes-none, Takes-then, bind_ok, ok_is, number_takes, number_again, run_takes, run_again}

-- which text at a place spells what
abbrev pub Spelling : Type 0 → Type 1
Spelling A = ℕ → List ℕ → A → Type 0

-- What was read was taken from the front of the input, which spells it.
pub record Taken {A : Type 0} (Spells : Spelling A) (input : Input) (x : A × Input) : Type 0 where
  pub text : List ℕ
  pub takes : Takes input text x.1
  pub spelled : Spells input.at text x.0

abbrev pub FoundAt : {A : Type 0} → (Input → Result (A × Input) Cause) → ℕ → List ℕ → A → Type 0
FoundAt read at text x =
    (more : List ℕ) → read (record { at = at; bytes = text ++ more })
    ≡ Ok (x, record { at = at + length text; bytes = more })

pub record Reads {A : Type 0} (read : Input → Result (A × Input) Cause)
    (Spells : Spelling A) : Type 0 where
  pub takes : (input : Input) (x : A × Input) → read input ≡ Ok x → IsBytes input.bytes
      → Taken Spells input x
  pub finds : (at : ℕ) (text : List ℕ) (x : A) → Spells at text x → FoundAt read at text x

-- the same reader, of a spelling that says the same
pub Reads-as : {A : Type 0} {read : Input → Result (A × Input) Cause} {Spells Others : Spelling A}
    → Reads read Spells
    → ((at : ℕ) (text : List ℕ) (x : A) → Spells at text x → Others at text x)
    → ((at : ℕ) (text : List ℕ) (x : A) → Others at text x → Spells at text x)
    → Reads read Others
Reads-as reads to from = record {
  takes = λ input x e fits. let taken = reads.takes input x e fits in
      record { text = taken.text; takes = taken.takes; spelled = to _ _ _ taken.spelled };
  finds = λ at text x spelled. reads.finds at text x (from _ _ _ spelled);
}

-- ---- one item behind another

-- a first item, and what stands behind it
pub record Then {A B : Type 0} (First : Spelling A) (Others : A → Spelling B) (at : ℕ)
    (text : List ℕ) (y : B) : Type 0 where
  pub first : A
  pub front : List ℕ
  pub rest : List ℕ
  pub parts : text ≡ front ++ rest
  pub spelled : First at front first
  pub others : Others first (at + length front) rest y

module _ {A B : Type 0} {read : Input → Result (A × Input) Cause} {First : Spelling A}
    {Others : A → Spelling B} (others : A × Input → Result (B × Input) Cause)
    (reads : Reads read First) (go : (x : A) → Reads (λ rest. others (x, rest)) (Others x)) where
  then_takes : (input : Input) (y : B × Input) → (read input >>= others) ≡ Ok y
      → IsBytes input.bytes → Taken (Then First Others) input y
  then_takes input y e fits =
      let first = bind_ok (read input) others y e in
      let front = reads.takes input first.0 first.1 fits in
      let behind = (go first.0.0).takes first.0.1 y first.2 front.takes.rest_fits in
      record {
        text = front.text ++ behind.text;
        takes = Takes-then _ _ _ _ _ front.takes behind.takes;
        spelled = record {
          first = first.0.0;
          front = front.text;
          rest = behind.text;
          parts = refl;
          spelled = front.spelled;
          others = subst (λ (at : ℕ). Others first.0.0 at behind.text y.0) front.takes.place
              behind.spelled;
        };
      }

  then_finds : (at : ℕ) (text : List ℕ) (y : B) → Then First Others at text y
      → FoundAt (λ input. read input >>= others) at text y
  then_finds at text y spelled more =
      let first = reads.finds at spelled.front spelled.first spelled.spelled
      (spelled.rest ++ more) in
      let behind = (go spelled.first).finds
      (at + length spelled.front) spelled.rest y spelled.others more in
      let place : (at + length spelled.front) + length spelled.rest
      ≡ at + length (spelled.front ++ spelled.rest) =
      omega (arith, length-append spelled.front spelled.rest) in
      rw (spelled.parts, append_assoc spelled.front spelled.rest more, first, behind, place) refl

  pub Reads-then : Reads (λ input. read input >>= others) (Then First Others)
  Reads-then = record { takes = then_takes; finds = then_finds }

-- the same, where what stands behind looks at the place of the first item too
module _ {A B : Type 0} {read : Input → Result (A × Input) Cause} {First : Spelling A}
    {Others : A → Spelling B} (others : Input → A × Input → Result (B × Input) Cause)
    (reads : Reads read First) (go : (before : Input) (x : A)
    → Reads (λ rest. others before (x, rest)) (Others x)) where
  behind_takes : (input : Input) (y : B × Input) → (read input >>= others input) ≡ Ok y
      → IsBytes input.bytes → Taken (Then First Others) input y
  behind_takes input = then_takes (others input) reads (go input) input

  behind_finds : (at : ℕ) (text : List ℕ) (y : B) → Then First Others at text y
      → FoundAt (λ input. read input >>= others input) at text y
  behind_finds at text y spelled more =
      then_finds (others (record { at = at; bytes = text ++ more })) reads
      (go (record { at = at; bytes = text ++ more })) at text y spelled more

  pub Reads-behind : Reads (λ input. read input >>= others input) (Then First Others)
  Reads-behind = record { takes = behind_takes; finds = behind_finds }

-- nothing is read
abbrev pub Nothing : {A : Type 0} → A → Spelling A
Nothing x at text y = (text ≡ []) × (y ≡ x)

pub Reads-ok : {A : Type 0} (x : A) → Reads (λ input. Ok (x, input)) (Nothing x)
Reads-ok x = record {
  takes = λ input y e fits.
      let same : (x, input) ≡ y = ok_is _ _ e in
      subst (λ y. Taken (Nothing x) input y) same
      (record { text = []; takes = Takes-none input fits; spelled = (refl, refl) });
  finds = λ at text y spelled more.
      let place : at + 0 ≡ at = omega arith in
      rw (spelled.0, spelled.1, place) refl;
}

-- what is made of an item
abbrev pub Made : {A B : Type 0} → (A → B) → Spelling A → Spelling B
Made make First at text y = (x : _) × First at text x × (y ≡ make x)

pub Reads-map : {A B : Type 0} (read : Input → Result (A × Input) Cause) (First : Spelling A)
    (make : A → B) → Reads read First
    → Reads (λ input. read input >>= λ x. Ok (make x.0, x.1)) (Made make First)
Reads-map read First make reads = record {
  takes = λ input y e fits.
      let first = bind_ok (read input) (λ x. Ok (make x.0, x.1)) y e in
      let front = reads.takes input first.0 first.1 fits in
      let same : (make first.0.0, first.0.1) ≡ y = ok_is _ _ first.2 in
      subst (λ y. Taken (Made make First) input y) same
      (record {
        text = front.text;
        takes = front.takes;
        spelled = (first.0.0, front.spelled, refl);
      });
  finds = λ at text y spelled more.
      rw (reads.finds at text spelled.0 spelled.1 more, spelled.2) refl;
}

-- ---- tests

pub where_ok : {A : Type 0} (test : Bool) (cause : Cause) (x y : A) → where_true test cause x ≡ Ok y
    → IsTrue test × (x ≡ y)
where_ok true cause x y e = (refl, cc)
where_ok false cause x y e = absurd cc

pub where_then : {A B : Type 0} (test : Bool) (cause : Cause) (x : A) (others : A → Result B Cause)
    (y : B) → (where_true test cause x >>= others) ≡ Ok y → IsTrue test × (others x ≡ Ok y)
where_then true cause x others y e = (refl, e)
where_then false cause x others y e = absurd cc

pub where_again : {A : Type 0} (test : Bool) (cause : Cause) (x : A) → IsTrue test
    → where_true test cause x ≡ Ok x
where_again true cause x holds = refl
where_again false cause x holds = absurd cc

-- what was read is kept where it passes
pub record Keeps {A : Type 0} (keep : A × Input → Result (A × Input) Cause)
    (Passes : A → Type 0) : Type 0 where
  pub taken : (x y : A × Input) → keep x ≡ Ok y → Passes x.0 × (x ≡ y)
  pub kept : (x : A × Input) → Passes x.0 → keep x ≡ Ok x

abbrev pub Passing : {A : Type 0} → (A → Type 0) → Spelling A → Spelling A
Passing Passes Spells at text x = Spells at text x × Passes x

pub Reads-kept : {A : Type 0} (read : Input → Result (A × Input) Cause) (Spells : Spelling A)
    (keep : A × Input → Result (A × Input) Cause) (Passes : A → Type 0) → Reads read Spells
    → Keeps keep Passes
    → Reads (λ input. read input >>= keep) (Passing Passes Spells)
Reads-kept read Spells keep Passes reads keeps = record {
  takes = λ input y e fits.
      let first = bind_ok (read input) keep y e in
      let front = reads.takes input first.0 first.1 fits in
      let passes = keeps.taken first.0 y first.2 in
      subst (λ y. Taken (Passing Passes Spells) input y) passes.1
      (record { text = front.text; takes = front.takes; spelled = (front.spelled, passes.0) });
  finds = λ at text x spelled more.
      rw (reads.finds at text x spelled.0 more) (keeps.kept _ spelled.1);
}

pub where_keeps : {A : Type 0} (test : A → Bool) (cause : A → Cause)
    → Keeps (λ x. where_true (test x.0) (cause x.0) x) (λ x. IsTrue (test x))
where_keeps test cause = record {
  taken = λ x y e. where_ok (test x.0) (cause x.0) x y e;
  kept = λ x holds. where_again (test x.0) (cause x.0) x holds;
}

-- What holds, in front of what is read where it does.
abbrev pub Holding : {A : Type 0} → Type 0 → Spelling A → Spelling A
Holding Holds Spells at text x = Holds × Spells at text x

-- there is no fault exactly where it holds
pub Reads-unless : {A C : Type 0} {Holds : Type 0} {Spells : Spelling A} {make : Input → C}
    (others : C → Result (A × Input) Cause) (fault : Option Cause) → (fault ≡ None → Holds)
    → (Holds → fault ≡ None)
    → Reads (λ rest. others (make rest)) Spells
    → Reads (λ rest. unless fault (make rest) >>= others) (Holding Holds Spells)
Reads-unless others None holds none reads = record {
  takes = λ input x e fits. let taken = reads.takes input x e fits in
      record { text = taken.text; takes = taken.takes; spelled = (holds refl, taken.spelled) };
  finds = λ at text x spelled. reads.finds at text x spelled.1;
}
Reads-unless others (Some cause) holds none reads =
    record {
      takes = λ input x e fits. absurd cc;
      finds = λ at text x spelled more. absurd (let no = none spelled.0 in cc);
    }

pub unless_ends : {A : Type 0} {Holds : Type 0} (fault : Option Cause) (x : A)
    → (fault ≡ None → Holds) → (Holds → fault ≡ None)
    → Reads (λ rest. unless fault (x, rest)) (Holding Holds (Nothing x))
unless_ends None x holds none =
    Reads-as (Reads-ok x) (λ at text y spelled. (holds refl, spelled))
    (λ at text y spelled. spelled.1)
unless_ends (Some cause) x holds none =
    record {
      takes = λ input y e fits. absurd cc;
      finds = λ at text y spelled more. absurd (let no = none spelled.0 in cc);
    }

-- the same of a test
pub Reads-where : {A C : Type 0} {Spells : Spelling A} {make : Input → C}
    (others : C → Result (A × Input) Cause) (test : Bool) (cause : Cause)
    → Reads (λ rest. others (make rest)) Spells
    → Reads (λ rest. where_true test cause (make rest) >>= others)
    (Holding (IsTrue test) Spells)
Reads-where others true cause reads =
    Reads-as reads (λ at text x spelled. (refl, spelled)) (λ at text x spelled. spelled.1)
Reads-where others false cause reads =
    record { takes = λ input x e fits. absurd cc; finds = λ at text x spelled more. absurd cc }

pub where_ends : {A : Type 0} (test : Bool) (cause : Cause) (x : A)
    → Reads (λ rest. where_true test cause (x, rest)) (Holding (IsTrue test) (Nothing x))
where_ends true cause x = Reads-as (Reads-ok x) (λ at text y spelled. (refl, spelled))
    (λ at text y spelled. spelled.1)
where_ends false cause x = record
    { takes = λ input y e fits. absurd cc; finds = λ at text y spelled more. absurd cc }

-- ---- so many items

abbrev pub Many : {A : Type 0} → Spelling A → ℕ → Spelling (List A)
Many Each zero at text items = (text ≡ []) × (items ≡ [])
Many Each (suc count) at text items =
    Then Each (λ first. Made (λ (others : List _). first ∷ others) (Many Each count)) at text items

-- reading many items is reading one after the other
pub record Repeats {A : Type 0} (read : Input → Result (A × Input) Cause)
    (many : ℕ → Input → Result (List A × Input) Cause) : Type 0 where
  pub none : many zero ≡ (λ input. Ok ([], input))
  pub more : (count : ℕ) → many (suc count)
      ≡ (λ input. read input >>= λ first. many count first.1 >>= λ others.
      Ok (first.0 ∷ others.0, others.1))

pub Reads-many : {A : Type 0} (read : Input → Result (A × Input) Cause)
    (many : ℕ → Input → Result (List A × Input) Cause) (Each : Spelling A) → Reads read Each
    → Repeats read many
    → (count : ℕ) → Reads (many count) (Many Each count)
Reads-many read many Each reads repeats zero = rw repeats.none (Reads-ok [])
Reads-many read many Each reads repeats (suc count) =
    rw (repeats.more count) (Reads-then _ reads
    (λ first. Reads-map (many count) (Many Each count) (λ (others : List _). first ∷ others)
    (Reads-many read many Each reads repeats count)))

-- ---- spellings that are told by a function

-- the text is the one spelling of what is right
pub record Spelt {A : Type 0} (spell : A → List ℕ) (IsRight : A → Type 0) (at : ℕ) (text : List ℕ)
    (x : A) : Type 0 where
  pub text_is : text ≡ spell x
  pub right : IsRight x

-- a number of so many bytes
pub number_reads : (width : ℕ)
    → Reads (number_at width) (Spelt (big_bytes width) (λ n. n < 256 ^ width))
number_reads width = record {
  takes = λ input x e fits. let taken = number_takes width input x e fits in
      record {
        text = big_bytes width x.0;
        takes = taken.0;
        spelled = record { text_is = refl; right = taken.1 };
      };
  finds = λ at text x spelled more. rw spelled.text_is (number_again width x spelled.right at more);
}

pub u2_reads : Reads (number_at 2) (Spelt u2 IsU2)
u2_reads = number_reads 2

pub u4_reads : Reads (number_at 4) (Spelt u4 IsU4)
u4_reads = number_reads 4

-- a run of so many bytes
abbrev pub IsRun : ℕ → List ℕ → Type 0
IsRun count bytes = (length bytes ≡ count) × IsBytes bytes

pub run_reads : (count : ℕ) → Reads (bytes_at count) (Spelt (λ bytes. bytes) (IsRun count))
run_reads count = record {
  takes = λ input x e fits. let taken = run_takes count input x e fits in
      record {
        text = x.0;
        takes = taken.0;
        spelled = record { text_is = refl; right = (taken.1, taken.2) };
      };
  finds = λ at text x spelled more. rw spelled.text_is (run_again count x spelled.right.0 at more);
}

-- what is spelled, in front of what stands behind it
pub spelt_then : {A B : Type 0} {spell : A → List ℕ} {IsRight : A → Type 0}
    {Others : A → Spelling B} {at : ℕ} {y : B} (x : A) (rest : List ℕ)
    → IsRight x → Others x (at + length (spell x)) rest y
    → Then (Spelt spell IsRight) Others at (spell x ++ rest) y
spelt_then {spell = spell} x rest right others =
    record {
      first = x;
      front = spell x;
      rest = rest;
      parts = refl;
      spelled = record { text_is = refl; right = right };
      others = others;
    }

-- the last of a row of them
pub spelt_last : {A B : Type 0} {spell : A → List ℕ} {IsRight : A → Type 0}
    {Others : A → Spelling B} {at : ℕ} {y : B} (x : A)
    → IsRight x → Others x (at + length (spell x)) [] y
    → Then (Spelt spell IsRight) Others at (spell x) y
spelt_last {spell = spell} x right others =
    record {
      first = x;
      front = spell x;
      rest = [];
      parts = sym (append-nil (spell x));
      spelled = record { text_is = refl; right = right };
      others = others;
    }

-- ---- so many items, each spelled so

abbrev pub AreRight : {A : Type 0} → (A → Type 0) → ℕ → List A → Type 0
AreRight IsRight count items = (length items ≡ count) × AllByRecursion IsRight items

module _ {A : Type 0} (spell : A → List ℕ) (IsRight : A → Type 0) where
  many_spelt : (count at : ℕ) (text : List ℕ) (items : List A)
      → Many (Spelt spell IsRight) count at text items
      → Spelt (flat_map spell) (AreRight IsRight count) at text items
  many_spelt zero at text items many =
      rw (many.0, many.1) (record { text_is = refl; right = (refl, tt) })
  many_spelt (suc count) at text items many =
      let made = many.others in
      let others = many_spelt count _ many.rest made.0 made.1 in
      rw (made.2, many.parts, many.spelled.text_is, others.text_is)
      (record {
        text_is = sym (flat_map-cons spell many.first made.0);
        right = (ap suc others.right.0, (many.spelled.right, others.right.1));
      })

  spelt_many : (count at : ℕ) (text : List ℕ) (items : List A)
      → Spelt (flat_map spell) (AreRight IsRight count) at text items
      → Many (Spelt spell IsRight) count at text items
  spelt_many zero at text [] spelt = (spelt.text_is, refl)
  spelt_many zero at text (item ∷ items) spelt = absurd (omega (arith, spelt.right.0))
  spelt_many (suc count) at text [] spelt = absurd (omega (arith, spelt.right.0))
  spelt_many (suc count) at text (item ∷ items) spelt =
      let length_is : length items ≡ count = omega (arith, spelt.right.0) in
      let others = spelt_many count (at + length (spell item)) (flat_map spell items) items
      (record { text_is = refl; right = (length_is, spelt.right.1.1) }) in
      rw (spelt.text_is, flat_map-cons) (spelt_then item _ spelt.right.1.0 (items, others, refl))

  pub Reads-list : (read : Input → Result (A × Input) Cause)
      (many : ℕ → Input → Result (List A × Input) Cause) → Reads read (Spelt spell IsRight)
      → Repeats read many
      → (count : ℕ) → Reads (many count) (Spelt (flat_map spell) (AreRight IsRight count))
  Reads-list read many reads repeats count =
      Reads-as (Reads-many read many (Spelt spell IsRight) reads repeats count) (many_spelt count)
      (spelt_many count)
