-- What lines show by themselves.
use Rattle.std.specs.Prelude.{ℕ, List, Result, Ok, Err}
use Rattle.std.specs.List.{AllZip}
use Rattle.counted_devices.specs.Cuts.{AreLinesIn}
use Rattle.counted_devices.specs.declared.judgement.Judgement.{Judgement}
use Rattle.counted_devices.specs.declared.judgement.Judgement.TheVariants as judgement

module _ {Item L : Type 0} (Shows : List ℕ → Result Item L → Type 0) where
  -- the line shows that item or that fault
  abbrev pub ShowsItem : List ℕ → Judgement Item L → Type 0
  ShowsItem line (judgement.Item item) = Shows line (Ok item)
  ShowsItem line (judgement.Fault fault) = Shows line (Err fault)

  -- what the lines of the chunks show, in their order
  pub record ShowChunks (chunks : List (List ℕ)) (judgements : List (Judgement Item L)) : Type 0
    where
      pub lines : List (List ℕ)
      pub cut : AreLinesIn chunks lines
      pub shown : AllZip ShowsItem lines judgements
