use Rattle.class_reader.proofs.Head.{pool_has_count, count_is_refused}
use Rattle.class_reader.proofs.class_file.read_front.Goals as goal

pub returns-in_err-body-clause-early : goal.returns-in_err-body-clause-early
returns-in_err-body-clause-early c = λ cause refused.
    absurd (pool_has_count _ _ _ cause c.in_ok-entries.ensures.pool
    (count_is_refused _ _ cause c.in_ok-versions.ensures.versions refused))
