-- That the readers keep their promises. One more refusal makes the sooner of the two (Said); what the rule does by the next lexeme is told of its token
-- (Tokens, ValueSteps); what holds of whatever is wanted (Wanted, Numbered, Rows); a text, a number or a word (Scalars). Of a list, of an object and of an
-- object under names of its own: what one more adds (..Steps), one turn (..Turns), what is said of the whole by what is wanted (Lists, Objects, NamedObjects),
-- and the promises of the functions (..Walks).
mod Bounds
mod NamedCells
mod NamedSteps
mod NamedNames
mod NamedTokens
mod NamedTurns
mod NamedObjects
mod NamedReads
mod NamedKnown
mod NamedLoop
mod NamedWalks
mod Scalars
pub mod Said
mod Numbered
mod Wanted
mod Rows
mod Lists
mod Objects
mod Tokens
mod MemberSteps
mod MemberTurns
mod ValueSteps
mod NameWalks
mod ListSteps
mod ListTurns
mod ListWalks
mod MemberWalks
mod ObjectWalks
mod ValueWalks
