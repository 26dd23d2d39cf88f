-- The ids of bars, and what links to them say.
use Rattle.std.specs.Prelude.{ℕ, List, ◌++◌, decimal}
use Rattle.call_links.specs.declared.style.TheConstants.{BAR, HYPHEN, TO_BAR}

-- what the ids of the bars of that section begin with
abbrev pub bar_ids : ℕ → List ℕ
bar_ids section = BAR.now ++ decimal section ++ HYPHEN.now

-- the id of the bar of the call of that number in that section
abbrev pub bar_id : ℕ → ℕ → List ℕ
bar_id section call = bar_ids section ++ decimal call

-- what links to the bars of that section begin with
abbrev pub bar_targets : ℕ → List ℕ
bar_targets section = TO_BAR.now ++ decimal section ++ HYPHEN.now

-- what a link to that bar says
abbrev pub bar_target : ℕ → ℕ → List ℕ
bar_target section call = bar_targets section ++ decimal call
