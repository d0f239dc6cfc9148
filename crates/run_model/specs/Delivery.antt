-- What sinks got of the texts that are meant for them.
use Rattle.std.specs.Prelude.{◌≡◌, ℕ, ◌<◌, ◌≤◌, List, [], Option, ◌⊎◌, length, take}
use Rattle.jv_model.specs.Outside.{followed_by, counted}

-- A sink before a call and after it. Its bytes are known where it tells them.
pub record Sunk : Type 0 where
  pub bytes_before : Option (List ℕ)
  pub bytes_after : Option (List ℕ)
  -- how many pieces that aren't empty it was given
  pub writes_before : ℕ
  pub writes_after : ℕ
  -- how many writes have failed
  pub faults_before : ℕ
  pub faults_after : ℕ

-- the sink got these bytes and no others
abbrev pub Got : Sunk → List ℕ → Type 0
Got sink bytes = sink.bytes_after ≡ followed_by sink.bytes_before bytes

-- it was given no byte
abbrev pub IsUntouched : Sunk → Type 0
IsUntouched sink = sink.writes_after ≡ sink.writes_before

-- no write failed
abbrev pub IsStill : Sunk → Type 0
IsStill sink = sink.faults_after ≡ sink.faults_before

-- the sink got no byte
pub record GotNothing (sink : Sunk) : Type 0 where
  pub bytes : sink.bytes_after ≡ sink.bytes_before
  pub untouched : IsUntouched sink
  pub still : IsStill sink

-- The sink got all of the text. One that doesn't tell its bytes was given a piece at least, where there is any text.
pub record GotText (sink : Sunk) (text : List ℕ) : Type 0 where
  pub bytes : Got sink text
  pub untouched : text ≡ [] → IsUntouched sink
  pub given : 0 < length text → sink.writes_before < sink.writes_after
  pub still : IsStill sink

-- The sink got the first bytes of the text, or all of them. A write for which there was no memory may have failed.
pub record GotFront (sink : Sunk) (text : List ℕ) : Type 0 where
  pub count : ℕ
  pub within : count ≤ length text
  pub bytes : Got sink (take count text)
  pub untouched : text ≡ [] → IsUntouched sink
  pub once : IsStill sink ⊎ (sink.faults_after ≡ counted sink.faults_before)

-- one fault of the sink itself kept it from getting more than the first bytes of the text, which aren't all of it
pub record FailedAt (sink : Sunk) (text : List ℕ) : Type 0 where
  pub count : ℕ
  pub part : count < length text
  pub bytes : Got sink (take count text)
  pub once : sink.faults_after ≡ counted sink.faults_before

-- The three sinks of a call, and the texts that are meant for them.
pub record Sinks : Type 0 where
  pub out : Sunk
  pub report : Sunk
  pub trace : Sunk

pub record Texts : Type 0 where
  pub out : List ℕ
  pub report : List ℕ
  pub trace : List ℕ

abbrev pub GotNoByte : Sinks → Type 0
GotNoByte sinks = GotNothing sinks.out × GotNothing sinks.report × GotNothing sinks.trace

abbrev pub GotAll : Sinks → Texts → Type 0
GotAll sinks texts = GotText sinks.out texts.out × GotText sinks.report texts.report × GotText sinks.trace texts.trace

-- Each sink got the front of its text, and none a byte before the one before it had all of its own.
abbrev pub GotInOrder : Sinks → Texts → Type 0
GotInOrder sinks texts =
    (GotFront sinks.out texts.out × GotNothing sinks.report × GotNothing sinks.trace)
    ⊎ (GotText sinks.out texts.out × GotFront sinks.report texts.report × GotNothing sinks.trace)
    ⊎ (GotText sinks.out texts.out × GotText sinks.report texts.report × GotFront sinks.trace texts.trace)

-- One sink failed: it got a part of its text, those before it all of theirs, and those behind it nothing.
abbrev pub OneFailed : Sinks → Texts → Type 0
OneFailed sinks texts =
    (FailedAt sinks.out texts.out × GotNothing sinks.report × GotNothing sinks.trace)
    ⊎ (GotText sinks.out texts.out × FailedAt sinks.report texts.report × GotNothing sinks.trace)
    ⊎ (GotText sinks.out texts.out × GotText sinks.report texts.report × FailedAt sinks.trace texts.trace)
