-- How many keys have pictures: a page has room for so many calls.
use Rattle.std.specs.Prelude.{ℕ, ◌≤◌, List, length, min, sum_by, take}
use Rattle.judged_keys.specs.Judgements.{Judgement}
use Rattle.draw_command.specs.declared.drawn.Drawn.{Drawn}

-- how many calls a page has room for, beside those that show why keys are refused
abbrev pub page_calls : ℕ
page_calls = 20000

-- how many calls of a key its picture shows, beside those that show why it is refused
abbrev pub window_size : Drawn → Judgement → ℕ
window_size drawn key = min drawn.calls (length key.one.part)

module _ (drawn : Drawn) (keys : List Judgement) where
  -- the first so many of the keys may have pictures: no more than are to be drawn, and a page has
  -- room for their calls
  pub record Fit (count : ℕ) : Type 0 where
    pub asked : count ≤ drawn.selection.most
    pub there : count ≤ length keys
    pub room : sum_by (window_size drawn) (take count keys) ≤ page_calls

  -- so many of the keys have pictures: as many as may have some
  pub record ArePictured (count : ℕ) : Type 0 where
    pub fit : Fit count
    pub most : (n : ℕ) → Fit n → n ≤ count
