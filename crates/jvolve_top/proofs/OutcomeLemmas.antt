-- What a call comes to.
use Rattle.std.proofs.Common.{◌≡◌, ℕ, List, [], ◌++◌, ◌≤◌, arith, Option, Some, None, is_some, take, length, sym, ap, subst, ◌∙◌, inl, inr}
use Rattle.std.specs.Prelude.{IfSome, IsNone, ◌⊎◌, ◌↔◌, MatchOption}
use Rattle.std.specs.Option.{option_map}
use Rattle.std.proofs.Math.Seq.{take-length}
use Rattle.jv_model.specs.Refusal.{Cause}
use Rattle.jv_model.specs.Outside.{Folder, counted}
use Rattle.jv_model.specs.Status.{Status, ended, bad_words, bad_input, read_fault, write_fault, no_memory}
use Rattle.run_model.specs.Invocation.{Invocation, invocation_of}
use Rattle.load_model.specs.Loading.{Answer, Loading, loads, refuses, misses}
use Rattle.run_model.specs.LoadWork.{load_work}
use Rattle.run_model.specs.Work.{Work, runs, writes}
use Rattle.jv_model.specs.End.{End, all_ended}
use Rattle.straight_line_model.specs.Machine.{end_of}
use Rattle.run_model.specs.Works.{Works}
use Rattle.run_model.specs.Delivery.{Sunk, Texts, GotAll, GotFront, GotInOrder, OneFailed}
use Rattle.run_model.specs.Call.{Call, Makes, MakesIfTold, AsksFirstOf, answer_of, loading_of, product_of, NothingFailed, IsQuiet, AreWritesQuiet}
use Rattle.run_model.specs.Headline.{Headline, Outcome, worked, starved_early, Done, whole, cut, starved, IsSilent, IsWhole}
use Rattle.class_loader.specs.Loads.{ComesTo, LoadsAll}

-- ---- writes

-- a sink that stays still, or that failed once as memory ran out
quiet_front : (status : Status) (sink : Sunk) (text : List ℕ) → status ≡ no_memory
    → GotFront sink text → IsQuiet status sink.faults_before sink.faults_after
quiet_front status sink text starves front =
    elim front.once [ inl still ↦ inl still | inr once ↦ inr (starves, once) ]

-- a count that rose by one rose
rose : (before after : ℕ) → after ≡ counted before → counted before ≤ after
rose before after is = no_less (counted before) after is where
  no_less : (n after : ℕ) → after ≡ n → n ≤ after
  no_less n after is = omega arith

module _ (call : Call) where
  abbrev AllQuiet : Type 0
  AllQuiet =
      AreWritesQuiet call call.sinks.out × AreWritesQuiet call call.sinks.report
      × AreWritesQuiet call call.sinks.trace

  quiet_all : (texts : Texts) → GotAll call.sinks texts → AllQuiet
  quiet_all texts got = (inl got.0.still, inl got.1.still, inl got.2.still)

  quiet_in_order : (texts : Texts) → call.status ≡ no_memory → GotInOrder call.sinks texts
      → AllQuiet
  quiet_in_order texts starves (inl out) = (
    quiet_front call.status call.sinks.out texts.out starves out.0,
    inl out.1.still,
    inl
        out.2.still,
  )
  quiet_in_order texts starves (inr (inl report)) = (
    inl report.0.still,
    quiet_front call.status call.sinks.report texts.report starves report.1,
    inl report.2.still,
  )
  quiet_in_order texts starves (inr (inr trace)) = (
    inl trace.0.still,
    inl trace.1.still,
    quiet_front call.status call.sinks.trace texts.trace
        starves trace.2,
  )

  quiet_silent : IsSilent call → AllQuiet
  quiet_silent silent =
      (inl silent.sinks.0.still, inl silent.sinks.1.still, inl silent.sinks.2.still)

  quiet_done : (work : Work) → Done work call → ¬ (call.status ≡ write_fault) → AllQuiet
  quiet_done work (whole texts works got) not_write = quiet_all texts got
  quiet_done work (cut texts own works is failed) not_write = absurd (not_write is)
  quiet_done work (starved texts own works is order) not_write = quiet_in_order texts is order

  failed_sink : (texts : Texts) → OneFailed call.sinks texts → NothingFailed call → ⊥
  failed_sink texts (inl out) nothing = nothing.out (rose _ _ out.0.once)
  failed_sink texts (inr (inl report)) nothing = nothing.report (rose _ _ report.1.once)
  failed_sink texts (inr (inr trace)) nothing = nothing.trace (rose _ _ trace.2.once)

-- ---- statuses

-- a status that tells of no refusal
record RefusesNothing (status : Status) : Type 0 where
  not_words : status ≡ bad_words → ⊥
  not_input : (item sub : ℕ) (cause : Cause) → status ≡ bad_input item sub cause → ⊥
  not_read : status ≡ read_fault → ⊥

ended_refuses_nothing : (status : Status) (found : Option End)
    → Some status ≡ option_map ended found → RefusesNothing status
ended_refuses_nothing status None is = absurd cc
ended_refuses_nothing status (Some end) is =
    record {
      not_words = λ other. absurd cc;
      not_input =
          λ item sub cause other. absurd cc;
      not_read = λ other. absurd cc;
    }

write_refuses_nothing : (status : Status) → status ≡ write_fault → RefusesNothing status
write_refuses_nothing status is =
    record {
      not_words = λ other. absurd cc;
      not_input =
          λ item sub cause other. absurd cc;
      not_read = λ other. absurd cc;
    }

memory_refuses_nothing : (status : Status) → status ≡ no_memory → RefusesNothing status
memory_refuses_nothing status is =
    record {
      not_words = λ other. absurd cc;
      not_input =
          λ item sub cause other. absurd cc;
      not_read = λ other. absurd cc;
    }

works_refuses_nothing : (work : Work) (call : Call) (texts : Texts)
    → Works work (product_of call texts (Some call.status)) → RefusesNothing call.status
works_refuses_nothing (runs program) call texts works =
    ended_refuses_nothing call.status (end_of works.0.machine) works.0.told
works_refuses_nothing (writes text) call texts works =
    ended_refuses_nothing call.status (Some all_ended) works.told

done_refuses_nothing : (work : Work) (call : Call) → Done work call → RefusesNothing call.status
done_refuses_nothing work call (whole texts works got) = works_refuses_nothing work call texts works
done_refuses_nothing work call (cut texts own works is failed) =
    write_refuses_nothing call.status is
done_refuses_nothing work call (starved texts own works is order) =
    memory_refuses_nothing call.status is

-- ---- the promise of a call whose words are a command

same_some : {A : Type 0} {x y : A} → ◌≡◌ {A = Option A} (Some x) (Some y) → x ≡ y
same_some is = cc

not_none : {A : Type 0} (o : Option A) (x : A) → o ≡ Some x → IsNone o → ⊥
not_none o x is none = let some = ap is_some is in absurd cc

module _ (call : Call) (invocation : Invocation) (command : invocation_of call.words
    ≡ Some invocation) where
  abbrev loading : Folder → Loading Work
  loading folder = load_work folder invocation

  loading_is : (folder : Folder) → loading_of call folder ≡ Some (loading folder)
  loading_is folder = ap (option_map (load_work folder)) command

  answer_is : (folder : Folder) → answer_of call folder ≡ Some (loading folder).answer
  answer_is folder =
      ap (option_map (λ (loading : Loading Work). loading.answer)) (loading_is folder)

  comes_where_told : (told : Option Folder) (answer : Answer Work)
      → IfSome told (λ folder. (loading folder).answer ≡ answer)
      → IfSome told (λ folder. answer_of call folder ≡ Some answer)
  comes_where_told None answer is = tt
  comes_where_told (Some folder) answer is = answer_is folder ∙ ap Some is

  makes_if_told : (answer : Answer Work) → ComesTo call.files loading answer
      → MakesIfTold call answer
  makes_if_told answer comes = comes_where_told call.files.folder answer comes

  -- what the files make is what loading came to
  same_answer : (one other : Answer Work) → ComesTo call.files loading one → Makes call other
      → one ≡ other
  same_answer one other comes makes =
      let here : (loading makes.0).answer ≡ one =
      subst (λ told. IfSome told (λ folder. (loading folder).answer ≡ one)) makes.1 comes in
      sym here ∙ same_some (sym (answer_is makes.0) ∙ makes.2)

  abbrev AsksFirst : Option Folder → Type 0
  AsksFirst told =
      IfSome told (λ folder. (count : ℕ)
      × (call.files.asked_after ≡ call.files.asked_before ++ take count (loading folder).asked))

  asks_where_told : (told : Option Folder) → AsksFirst told
      → IfSome told
      (λ folder.
      IfSome (loading_of call folder) (λ (loading : Loading Work). AsksFirstOf call loading.asked))
  asks_where_told None asked = tt
  asks_where_told (Some folder) asked =
      subst (λ found. IfSome found (λ (loading : Loading Work). AsksFirstOf call loading.asked))
      (sym (loading_is folder)) asked

  asks : AsksFirst call.files.folder
      → MatchOption (invocation_of call.words) (AsksFirstOf call [])
      (λ command.
      IfSome call.files.folder
      (λ folder.
      IfSome (loading_of call folder)
      (λ (loading : Loading Work). AsksFirstOf call loading.asked)))
  asks asked = subst (λ found. MatchOption found (AsksFirstOf call [])
      (λ command.
      IfSome call.files.folder
      (λ folder.
      IfSome (loading_of call folder)
      (λ (loading : Loading Work). AsksFirstOf call loading.asked))))
      (sym command) (asks_where_told call.files.folder asked)

  is_command : (call.status ≡ bad_words → ⊥)
      → (call.status ≡ bad_words) ↔ IsNone (invocation_of call.words)
  is_command not_words = (
    λ is. absurd (not_words is),
    λ none.
        absurd (not_none (invocation_of call.words) invocation command none),
  )

  asks_all : (told : Option Folder)
      → IfSome told (λ folder. call.files.asked_after
      ≡ call.files.asked_before ++ (loading folder).asked) → AsksFirst told
  asks_all None asked = tt
  asks_all (Some folder) asked = (
    length (loading folder).asked,
    asked
        ∙ ap (λ names. call.files.asked_before ++ names)
        (sym (take-length (loading folder).asked)),
  )

  -- where work was loaded
  module _ (work : Work) (loaded : LoadsAll call.files loading work) where
    headline_loaded : Outcome call → RefusesNothing call.status
        → (¬ (call.status ≡ write_fault) → AllQuiet call)
        → ((other : Work) → work ≡ other → NothingFailed call
        → IsWhole other call ⊎ (call.status ≡ no_memory)) → Headline call
    headline_loaded outcome nothing quiet complete = record {
      outcome = outcome;
      words = is_command nothing.not_words;
      input = λ item sub cause is. absurd (nothing.not_input item sub cause is);
      refusal = λ item sub cause makes no_fault. let same =
          same_answer (loads work) (refuses item sub cause) loaded.answer makes in absurd cc;
      asked = asks (asks_all call.files.folder loaded.asked);
      read = λ is. absurd (nothing.not_read is);
      missing = λ makes. let same = same_answer (loads work) misses loaded.answer makes in
          absurd cc;
      quiet_reads = λ not_read. inl loaded.faults;
      quiet_writes = quiet;
      complete = λ other makes no_fault. let same =
          same_answer (loads work) (loads other) loaded.answer makes in
          complete other (cc) no_fault;
    }

    whole_or_starved : (other : Work) → Done work call → work ≡ other → NothingFailed call
        → IsWhole other call ⊎ (call.status ≡ no_memory)
    whole_or_starved other (whole texts works got) same nothing =
        inl (subst (λ work. IsWhole work call) same (texts, works))
    whole_or_starved other (cut texts own works is failed) same nothing =
        absurd (failed_sink call texts failed nothing)
    whole_or_starved other (starved texts own works is order) same nothing = inr is

    headline_done : Done work call → Headline call
    headline_done done =
        headline_loaded (worked work (makes_if_told (loads work) loaded.answer) loaded.faults done)
        (done_refuses_nothing work call done)
        (quiet_done call work done) (λ other same nothing. whole_or_starved other done same nothing)

    headline_starved : call.status ≡ no_memory → IsSilent call → Headline call
    headline_starved is silent =
        headline_loaded (starved_early is silent) (memory_refuses_nothing call.status is)
        (λ not_write. quiet_silent call silent) (λ other same nothing. inr is)

    pub headline_of_work : Done work call ⊎ ((call.status ≡ no_memory) × IsSilent call)
        → Headline call
    headline_of_work (inl done) = headline_done done
    headline_of_work (inr early) = headline_starved early.0 early.1
