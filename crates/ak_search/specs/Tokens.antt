-- How a search text is cut: into terms, parentheses, and the words `or` and `and`, each with its place.
use Rattle.std.specs.Prelude.{ℕ, zero, suc, ◌+◌, ◌-◌, ◌==◌, nat_lt, Bool, true, false, not, ◌&&◌, ◌||◌, if◌then◌else◌, List, [], ◌∷◌, ◌++◌, length, take, drop, Option, Some, None, codes}
use Rattle.ak_search.specs.declared.source_chars.SourceChar.{SourceChar}
use Rattle.ak_search.specs.declared.terms.Term.{Term}
use Rattle.ak_search.specs.declared.tokens.Token.{Token}
use Rattle.ak_search.specs.declared.tokens.Piece.{Piece}
use Rattle.ak_search.specs.declared.tokens.Piece.TheVariants as pieces
use Rattle.ak_search.specs.declared.lexemes.Lexeme.{Lexeme}
use Rattle.ak_search.specs.SourceChars.{lowered, is_bare, until}
use Rattle.ak_search.specs.Terms.{is_word, term_of}

-- a space or a parenthesis ends a term outside quotes
abbrev pub ends_word : SourceChar → Bool
ends_word s = (s.letter == 32) || ((s.letter == 40) || (s.letter == 41))

-- how many characters stand before the end of a term
abbrev pub word_size : List SourceChar → ℕ
word_size [] = 0
word_size (s ∷ ss) = if ends_word s then 0 else word_size ss + 1

-- the place of the first character, and whether it is a quote
abbrev pub quote_at : List SourceChar → Option ℕ
quote_at [] = None
quote_at (s ∷ ss) = if is_bare 34 s then Some s.place else None

-- a `-` negates where something other than a space or `)` follows
abbrev pub is_negated_by : SourceChar → List SourceChar → Bool
is_negated_by s [] = false
is_negated_by s (t ∷ ss) = (s.letter == 45) && not ((t.letter == 32) || (t.letter == 41))

-- a term as a piece, or that its value can't be read
abbrev pub piece_of : Bool → Option Term → Piece
piece_of negated None = pieces.BadValue
piece_of negated (Some term) = pieces.Test negated term

-- a term, unless it is one of the two words, which are terms behind a `-`
abbrev pub word_piece : Bool → Bool → List SourceChar → Piece
word_piece minus negated word =
    if not minus && is_word (lowered word) (codes "or") then pieces.Or
    else (if not minus && is_word (lowered word) (codes "and") then pieces.And
    else piece_of negated (term_of word))

abbrev pub lexeme : Piece → ℕ → ℕ → Lexeme
lexeme piece place size = record { piece = piece; place = place; size = size }

-- the characters of a term in quotes: of the term there stand so many before the quote, and behind it the rest of the text.
-- The term is at the first place, and the quote, where it stays open, at the second
abbrev pub quoted_lexeme : Bool → List SourceChar → ℕ → ℕ → List SourceChar → Lexeme
quoted_lexeme negated before place quote rest =
    if nat_lt (until 34 rest) (length rest) then lexeme (piece_of negated (term_of (before ++ take (until 34 rest) rest))) place (length before + until 34 rest + 2)
    else lexeme pieces.OpenQuote quote (length before + length rest + 1)

-- a term that begins without a quote. A quote right behind its first colon quotes
abbrev pub word_lexeme_of : Bool → Bool → List SourceChar → ℕ → ℕ → ℕ → Option ℕ → Lexeme
word_lexeme_of minus negated source_chars place size colon (Some quote) = quoted_lexeme negated (take (colon + 1) source_chars) place quote (drop (colon + 2) source_chars)
word_lexeme_of minus negated source_chars place size colon None = lexeme (word_piece minus negated (take size source_chars)) place size

-- a term that begins without a quote: it ends at a bare space or parenthesis, or after its quoted value
abbrev pub word_lexeme : Bool → Bool → List SourceChar → ℕ → Lexeme
word_lexeme minus negated source_chars place =
    word_lexeme_of minus negated source_chars place (word_size source_chars) (until 58 (take (word_size source_chars) source_chars)) (quote_at (drop (until 58 (take (word_size source_chars) source_chars) + 1) (take (word_size source_chars) source_chars)))

-- what stands at the front of characters that begin with neither a space nor a `-` that negates
abbrev pub next_lexeme : Bool → Bool → SourceChar → List SourceChar → Lexeme
next_lexeme minus negated s ss =
    if s.letter == 40 then lexeme (pieces.Open negated) s.place 1
    else (if s.letter == 41 then lexeme pieces.Close s.place 1
    else (if is_bare 34 s then quoted_lexeme negated [] s.place s.place ss
    else word_lexeme minus negated (s ∷ ss) s.place))

-- the token of a lexeme
abbrev pub placed : Lexeme → Token
placed c = record { place = c.place; piece = c.piece }

-- the tokens of characters, of which the first so many were taken. The truth values say whether a `-` that
-- negates stands right before, and whether what comes is negated, as it is by an odd number of them
abbrev pub tokens_from : ℕ → Bool → Bool → List SourceChar → List Token
tokens_from skip minus negated [] = []
tokens_from (suc skip) minus negated (s ∷ ss) = tokens_from skip minus negated ss
tokens_from zero minus negated (s ∷ ss) =
    if s.letter == 32 then tokens_from 0 minus negated ss
    else (if is_negated_by s ss then tokens_from 0 true (not negated) ss
    else placed (next_lexeme minus negated s ss) ∷ tokens_from ((next_lexeme minus negated s ss).size - 1) false false ss)
