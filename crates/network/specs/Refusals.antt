-- Which refusals may come.
use Rattle.std.specs.Prelude.{◌≡◌, ◌⊎◌}
use Rattle.network.specs.declared.refusals.NetRefusal.{NetRefusal}

-- it is one of these two
abbrev pub IsEither : NetRefusal → NetRefusal → NetRefusal → Type 0
IsEither one other refusal = (refusal ≡ one) ⊎ (refusal ≡ other)
