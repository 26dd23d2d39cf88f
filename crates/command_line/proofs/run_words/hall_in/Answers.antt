-- Where a hall is named, its number alone says which is shown.
use Rattle.std.proofs.Common.{◌≡◌, ℕ, List, None, inl, inr, codes}
use Rattle.clap.specs.Words.{Row, first_of}
use Rattle.command_line.specs.Forms.{shown_hall}
use Rattle.command_line.specs.Reading.{AsksNumber, IsNone, rows_in}
use Rattle.command_line.specs.RunWords.{AsksShown}
use Rattle.command_line.specs.declared.asked.Shown.TheVariants as shown
use Rattle.command_line.proofs.Numbers.{none_found}
use Rattle.command_line.proofs.run_words.hall_in.Goals as goal

unnamed : (rows : List Row) (halls : ℕ) → (first_of (codes "show") rows ≡ None → ⊥) → IsNone (AsksNumber rows (codes "show") shown_hall)
    → IsNone (AsksShown rows halls)
unnamed rows halls named none (shown.Hall hall) asks = elim asks [
  | inl given ↦ none hall given.number
  | inr free ↦ named free.no_show
]
unnamed rows halls named none shown.All asks = named asks.no_show

pub returns-in_err-hall : goal.returns-in_err-hall
returns-in_err-hall c =
    none_found _ c.from_residual.result _ c.from_residual.ensures.1 (unnamed (rows_in c.args.matches.now) c.args.halls c.requires c.in_err-hall.ensures)
