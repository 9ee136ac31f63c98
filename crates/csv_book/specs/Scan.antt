-- Serves the code: the states of reading a row, as those of csv's machine.
use Rattle.csv.specs.declared.parser.Action.{Action}
use Rattle.csv.specs.declared.parser.Action.TheVariants as act
use Rattle.csv.specs.declared.parser.State.{State}
use Rattle.csv.specs.declared.parser.State.TheVariants as st
use Rattle.csv_book.specs.declared.scan.Action as own_action
use Rattle.csv_book.specs.declared.scan.Action.TheVariants.{Skip, Copy, EndField, EndRow}
use Rattle.csv_book.specs.declared.scan.State as own_state
use Rattle.csv_book.specs.declared.scan.State.TheVariants.{BeforeRow, BeforeField, InField, InQuotes, AfterQuote}

abbrev pub csv_state : own_state.State → State
csv_state BeforeRow = st.StartRecord
csv_state BeforeField = st.StartField
csv_state InField = st.InField
csv_state InQuotes = st.InQuoted
csv_state AfterQuote = st.AfterQuote

abbrev pub csv_action : own_action.Action → Action
csv_action Skip = act.Skip
csv_action Copy = act.Copy
csv_action EndField = act.EndField
csv_action EndRow = act.EndRecord

-- behind CR the next row is read as behind LF
abbrev pub without_return : State → State
without_return st.AfterCr = st.StartRecord
without_return st.StartRecord = st.StartRecord
without_return st.StartField = st.StartField
without_return st.InField = st.InField
without_return st.InQuoted = st.InQuoted
without_return st.AfterQuote = st.AfterQuote
without_return st.InEscape = st.InEscape
without_return st.InComment = st.InComment
