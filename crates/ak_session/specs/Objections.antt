-- Why a session refuses a request that has its next step.
pub data Objection : Type 0 where
  -- its method may not come next
  MayNotCome : Objection
  -- it asks for rows from a usn on that is under 0 or over the server's
  WrongUsn : Objection
  -- the usn after the server's, or a moment after the last one of a side, would be past its range
  NoNumber : Objection
  -- it has over 250 entries
  TooManyRows : Objection
  -- a row, an id, a name or a setting of it may not be held
  WrongRow : Objection
  -- it has the settings though its side is not the newer one, or has none though it is
  WrongNewer : Objection
