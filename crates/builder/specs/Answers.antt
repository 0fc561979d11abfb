-- What the functions of the updates answer: a number, and where it is 0 a step.
use Rattle.std.specs.Prelude.{ℕ, ◌≡◌, Bool, List}
use Rattle.records.specs.declared.update.TableUpdate.{TableUpdate}
use Rattle.rules.specs.Words.{first_of, Check}
use Rattle.rules.specs.Register.{Update, Terms, State}
use Rattle.rules.specs.Updates.{offer_checks, effect}
use Rattle.rules.specs.Kinds.{read_update}
use Rattle.builder.specs.declared.builder.TableMetadataBuilder.{TableMetadataBuilder}
use Rattle.builder.specs.declared.decision.Decision.{Decision}
use Rattle.builder.specs.Pieces.{Stepped}

-- the number is that of the first check that fails; where none does, the update took effect and was logged, or nothing changed
abbrev pub Answers : List Check → (st st' : State) → ℕ → Bool → TableMetadataBuilder → TableUpdate → Type 0
Answers checks st st' number logs b entry = (number ≡ first_of checks) × (number ≡ 0 → Stepped st st' logs b entry)

-- the same of an update: the form of what it offers and its checks, and its effect
abbrev pub AnswersUpdate : Terms → Update → State → ℕ → Bool → TableMetadataBuilder → TableUpdate → Type 0
AnswersUpdate terms u st number logs b entry = Answers (offer_checks terms u st) st (effect terms u st) number logs b entry

-- a decision is right for an update of a list, in a state
abbrev pub Decides : Terms → TableUpdate → State → Decision → Type 0
Decides terms u st d = AnswersUpdate terms (read_update u) st d.number d.logs d.builder d.entry
