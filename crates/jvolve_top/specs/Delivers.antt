-- What the delivery of texts leaves at their sinks.
use Rattle.std.specs.Prelude.{Result, Ok, Err}
use Rattle.jv_outer.specs.declared.sink.WriteError.{WriteError}
use Rattle.jv_outer.specs.declared.sink.WriteError.TheVariants as errors
use Rattle.run_model.specs.Delivery as model
use Rattle.jvolve_top.specs.declared.deliver.Texts.{Texts}

abbrev pub texts_view : Texts → model.Texts
texts_view texts =
    record { out = texts.out.items; report = texts.report.items; trace = texts.trace.items }

-- what sinks got of these texts, by what is answered
abbrev pub Delivers : {A : Type 0} → Result A WriteError → model.Sinks → model.Texts → Type 0
Delivers (Ok done) sinks texts = model.GotAll sinks texts
Delivers (Err errors.Failed) sinks texts = model.OneFailed sinks texts
Delivers (Err errors.NoMemory) sinks texts = model.GotInOrder sinks texts
