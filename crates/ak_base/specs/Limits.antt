-- The limits that several definitions share.
use Rattle.std.specs.Prelude.{ℤ, pos}

-- the last id of a row: the last whole number that a double holds exactly. The first is 1
abbrev pub last_id : ℤ
last_id = pos 9_007_199_254_740_991

-- the last usn of a row or a tag. The first is -1, which says that it was not sent yet
abbrev pub last_usn : ℤ
last_usn = pos 2_147_483_647

-- the last usn of a head, below the last one of a row. The first is 0
abbrev pub last_head_usn : ℤ
last_head_usn = pos 2_147_483_646

-- the last time of change of a row, in seconds. The first is 0
abbrev pub last_stamp : ℤ
last_stamp = pos 4_294_967_295

-- the last moment, in milliseconds. The first is 0
abbrev pub last_moment : ℤ
last_moment = pos 4_294_967_295_999
