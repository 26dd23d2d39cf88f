-- Tags (Lynch and Shvartsman 1997): a number and the name of a writer, ordered by number, then by
-- writer.
use Rattle.std.specs.Prelude.{ℕ, ◌≡◌, ◌<◌, ◌+◌, ◌⊎◌}
use Rattle.std.specs.Ordering.{nat_cmp, on, then_cmp}
use Rattle.std.specs.declared.cmp.Ordering.{Ordering}

-- a number and the name of a writer
pub record Tag : Type 0 where
  pub number : ℕ
  pub writer : ℕ

-- the least tag, that of a key which nobody wrote
abbrev pub least : Tag
least = record { number = 0; writer = 0 }

-- the first tag of a writer that is above a tag
abbrev pub next_of : Tag → ℕ → Tag
next_of tag writer = record { number = tag.number + 1; writer = writer }

-- the tag order: by number, then by writer
abbrev pub tag_cmp : Tag → Tag → Ordering
tag_cmp = then_cmp (on (λ t. t.number) nat_cmp) (on (λ t. t.writer) nat_cmp)

-- tag a is below tag b: its number is less, or it is the same and its writer is less
abbrev pub IsBelow : Tag → Tag → Type 0
IsBelow a b = (a.number < b.number) ⊎ ((a.number ≡ b.number) × (a.writer < b.writer))
