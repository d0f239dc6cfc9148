-- What the laws of texts say.
use Rattle.std.specs.Prelude.{ℕ, List}
use Rattle.jv_model.specs.Journal.{Entry}
use Rattle.text_model.specs.JournalText.{IsReadBack, HasOneSpelling}

abbrev pub JournalsAreReadBack : Type 0
JournalsAreReadBack = (entries : List Entry) → IsReadBack entries

abbrev pub JournalsHaveOneSpelling : Type 0
JournalsHaveOneSpelling = (text : List ℕ) → HasOneSpelling text
