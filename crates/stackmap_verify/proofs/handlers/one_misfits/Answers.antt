use Rattle.std.proofs.Common.{◌≡◌, ◌&&◌, ℕ, false, List, ap, sym, subst, ◌∙◌, refl}
use Rattle.std.specs.List.{list_any}
use Rattle.std.specs.List.Sorted.{IsPermutation}
use Rattle.code_model.specs.Names.{named_handler}
use Rattle.typing_model.specs.Rules.{misfits}
use Rattle.jv_types.specs.ClassData.{pool_of}
use Rattle.jv_types.specs.Code.{handler_of}
use Rattle.jv_types.specs.declared.code.Handler.{Handler}
use Rattle.type_rules.specs.declared.types.VerificationType.{VerificationType}
use Rattle.type_rules.specs.Frames.{frame_of}
use Rattle.stackmap_verify.specs.Cover.{covers_at, CoversAt, AreLeft, HasLeft}
use Rattle.stackmap_verify.specs.Watch.{misfits_locals}
use Rattle.stackmap_verify.proofs.Watching.{no_items, told_by}
use Rattle.stackmap_verify.proofs.handlers.one_misfits.Goals as goal

pub returns-then-is_clear-clause-misfits : goal.returns-then-is_clear-clause-misfits
returns-then-is_clear-clause-misfits g c = λ e is.
    let method = c.args.method.now in
    let frame = c.args.frame.now in
    let cover = c.come_to.new.self in
    let test = misfits_locals method e frame.locals in
    let wrongs = λ (h : Handler). misfits e c.args.pc (frame_of method.world.now frame) (named_handler (pool_of method.code.now.pool.now) (handler_of h)) in
    let none = no_items cover.active (sym c.is_clear.ensures ∙ c.if-is_clear.true) in
    sym (ap (list_any wrongs) none)
    ∙ told_by method e is c.args.pc c.args.pc frame c.args.watch.now.cover.rows cover.rows cover.active c.requires.watch.rows
    c.come_to.ensures.same refl
    (subst (λ (p : ℕ). CoversAt test cover.rows p cover.active) c.come_to.ensures.place
    (c.in_ok-come_to.ensures.here test cover.active
    (subst (λ (p : ℕ). AreLeft test cover.rows cover.begun cover.active p) (sym c.come_to.ensures.place) (c.come_to.ensures.active test))))

pub returns-then-branch-clause-misfits : goal.returns-then-branch-clause-misfits
returns-then-branch-clause-misfits g c = λ e is.
    let method = c.args.method.now in
    let w = method.world.now in
    let frame = c.args.frame.now in
    let cover = c.watch_locals.new.watch.cover in
    let wrongs = λ (h : Handler). misfits e c.args.pc (frame_of w frame) (named_handler (pool_of method.code.now.pool.now) (handler_of h)) in
    let told = c.in_ok-one_of_misfits.ensures e is in
    let left = c.in_ok-watch_locals.ensures.left (misfits_locals method e)
    (c.in_ok-come_to.ensures.left (misfits_locals method e c.args.watch.now.locals.items) (c.requires.watch.left e is)) in
    sym c.if-branch.true ∙ told ∙ ap (list_any wrongs) c.unseen-unseen.ensures
    ∙ told_by method e is c.args.pc cover.place frame c.args.watch.now.cover.rows cover.rows cover.unseen c.requires.watch.rows
    (c.watch_locals.ensures.rows ∙ c.come_to.ensures.same) (c.watch_locals.ensures.place ∙ c.come_to.ensures.place)
    (c.in_ok-watch_locals.ensures.here c.in_ok-come_to.ensures.here (misfits_locals method e frame.locals) cover.unseen
    (subst (λ (l : List VerificationType). HasLeft (misfits_locals method e l) cover) c.locals.ensures left))

pub returns-then-branch-clause-watch : goal.returns-then-branch-clause-watch
returns-then-branch-clause-watch g c =
    let method = c.args.method.now in
    let cover = c.watch_locals.new.watch.cover in
    record {
      rows = subst (IsPermutation method.code.now.body.now.handlers.items)
          (sym (c.watch_locals.ensures.rows ∙ c.come_to.ensures.same)) c.requires.watch.rows;
      left = λ e is.
          subst (λ (l : List VerificationType). HasLeft (misfits_locals method e l) cover) (sym c.in_ok-watch_locals.ensures.locals)
          (c.in_ok-watch_locals.ensures.left (misfits_locals method e)
          (c.in_ok-come_to.ensures.left (misfits_locals method e c.args.watch.now.locals.items) (c.requires.watch.left e is)));
    }

pub returns-clause-misfits : goal.returns-clause-misfits
returns-clause-misfits g c = λ e is.
    let method = c.args.method.now in
    let w = method.world.now in
    let frame = c.args.frame.now in
    let cover = c.watch_locals.new.watch.cover in
    let wrongs = λ (h : Handler). misfits e c.args.pc (frame_of w frame) (named_handler (pool_of method.code.now.pool.now) (handler_of h)) in
    let told = c.in_ok-one_of_misfits.ensures e is in
    let left = c.in_ok-watch_locals.ensures.left (misfits_locals method e)
    (c.in_ok-come_to.ensures.left (misfits_locals method e c.args.watch.now.locals.items) (c.requires.watch.left e is)) in
    sym c.if-branch.false ∙ told ∙ ap (list_any wrongs) c.unseen-unseen.ensures
    ∙ told_by method e is c.args.pc cover.place frame c.args.watch.now.cover.rows cover.rows cover.unseen c.requires.watch.rows
    (c.watch_locals.ensures.rows ∙ c.come_to.ensures.same) (c.watch_locals.ensures.place ∙ c.come_to.ensures.place)
    (c.in_ok-watch_locals.ensures.here c.in_ok-come_to.ensures.here (misfits_locals method e frame.locals) cover.unseen
    (subst (λ (l : List VerificationType). HasLeft (misfits_locals method e l) cover) c.locals.ensures left))

pub returns-clause-watch : goal.returns-clause-watch
returns-clause-watch g c =
    let method = c.args.method.now in
    let w = method.world.now in
    let frame = c.args.frame.now in
    let cover = c.watch_locals.new.watch.cover in
    let locals = c.watch_locals.new.watch.locals.items in
    let same : locals ≡ frame.locals = c.in_ok-watch_locals.ensures.locals ∙ c.locals.ensures in
    record {
      rows = subst (IsPermutation method.code.now.body.now.handlers.items)
          (sym (c.see.ensures.rows ∙ c.watch_locals.ensures.rows ∙ c.come_to.ensures.same)) c.requires.watch.rows;
      left = λ e is.
          let pool = pool_of method.code.now.pool.now in
          let wrongs = λ (p : ℕ) (h : Handler). misfits e p (frame_of w frame) (named_handler pool (handler_of h)) in
          let left = c.in_ok-watch_locals.ensures.left (misfits_locals method e)
          (c.in_ok-come_to.ensures.left (misfits_locals method e c.args.watch.now.locals.items) (c.requires.watch.left e is)) in
          let none : list_any (wrongs c.args.pc) cover.unseen ≡ false =
          sym (c.in_ok-one_of_misfits.ensures e is ∙ ap (list_any (wrongs c.args.pc)) c.unseen-unseen.ensures) ∙ c.if-branch.false in
          let here = c.watch_locals.ensures.place ∙ c.come_to.ensures.place in
          c.see.ensures.left (misfits_locals method e locals)
          (subst (λ (l : List VerificationType). list_any (λ row. covers_at cover.place row && misfits_locals method e l row) cover.unseen ≡ false) (sym same)
          (subst (λ (p : ℕ). list_any (wrongs p) cover.unseen ≡ false) (sym here) none))
          (subst (λ (l : List VerificationType). HasLeft (misfits_locals method e l) cover) (sym c.in_ok-watch_locals.ensures.locals) left);
    }
