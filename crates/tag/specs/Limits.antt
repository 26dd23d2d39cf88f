-- The limits of names, texts and records.
use Rattle.std.specs.Prelude.{ℕ}

-- how many calls a record may have; no tag has a greater number
abbrev pub call_limit : ℕ
call_limit = 1000000

-- the greatest name of a client
abbrev pub client_limit : ℕ
client_limit = 65535

-- how many replicas there may be
abbrev pub replica_limit : ℕ
replica_limit = 15

-- how many bytes a key may have
abbrev pub key_limit : ℕ
key_limit = 64

-- how many bytes a value may have
abbrev pub value_limit : ℕ
value_limit = 256
