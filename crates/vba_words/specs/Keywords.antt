-- The kept words, by their case folds.
use Rattle.std.specs.Prelude.{ℕ, List, [], ◌∷◌, Option, Some, None, codes, if◌then◌else◌}
use Rattle.std.specs.Str.{bytes_eq}
use Rattle.vba_words.specs.declared.keyword.Keyword.{Keyword}
use Rattle.vba_words.specs.declared.keyword.Keyword.TheVariants as keyword

-- the kept words in alphabetical order, each by its case fold
abbrev pub keywords : List (List ℕ × Keyword)
keywords =
    (codes "addressof", keyword.AddressOf) ∷
    (codes "and", keyword.And) ∷
    (codes "as", keyword.As) ∷
    (codes "byref", keyword.ByRef) ∷
    (codes "byval", keyword.ByVal) ∷
    (codes "call", keyword.Call) ∷
    (codes "case", keyword.Case) ∷
    (codes "const", keyword.Const) ∷
    (codes "declare", keyword.Declare) ∷
    (codes "dim", keyword.Dim) ∷
    (codes "do", keyword.Do) ∷
    (codes "each", keyword.Each) ∷
    (codes "else", keyword.Else) ∷
    (codes "elseif", keyword.ElseIf) ∷
    (codes "empty", keyword.Empty) ∷
    (codes "end", keyword.End) ∷
    (codes "enum", keyword.Enum) ∷
    (codes "eqv", keyword.Eqv) ∷
    (codes "erase", keyword.Erase) ∷
    (codes "event", keyword.Event) ∷
    (codes "exit", keyword.Exit) ∷
    (codes "false", keyword.False) ∷
    (codes "for", keyword.For) ∷
    (codes "friend", keyword.Friend) ∷
    (codes "function", keyword.Function) ∷
    (codes "global", keyword.Global) ∷
    (codes "gosub", keyword.GoSub) ∷
    (codes "goto", keyword.GoTo) ∷
    (codes "if", keyword.If) ∷
    (codes "imp", keyword.Imp) ∷
    (codes "implements", keyword.Implements) ∷
    (codes "in", keyword.In) ∷
    (codes "is", keyword.Is) ∷
    (codes "let", keyword.Let) ∷
    (codes "like", keyword.Like) ∷
    (codes "loop", keyword.Loop) ∷
    (codes "lset", keyword.LSet) ∷
    (codes "me", keyword.Me) ∷
    (codes "mod", keyword.Mod) ∷
    (codes "new", keyword.New) ∷
    (codes "next", keyword.Next) ∷
    (codes "not", keyword.Not) ∷
    (codes "nothing", keyword.Nothing) ∷
    (codes "null", keyword.Null) ∷
    (codes "on", keyword.On) ∷
    (codes "open", keyword.Open) ∷
    (codes "option", keyword.Option) ∷
    (codes "optional", keyword.Optional) ∷
    (codes "or", keyword.Or) ∷
    (codes "paramarray", keyword.ParamArray) ∷
    (codes "print", keyword.Print) ∷
    (codes "private", keyword.Private) ∷
    (codes "public", keyword.Public) ∷
    (codes "raiseevent", keyword.RaiseEvent) ∷
    (codes "redim", keyword.ReDim) ∷
    (codes "rem", keyword.Rem) ∷
    (codes "resume", keyword.Resume) ∷
    (codes "return", keyword.Return) ∷
    (codes "rset", keyword.RSet) ∷
    (codes "select", keyword.Select) ∷
    (codes "set", keyword.Set) ∷
    (codes "static", keyword.Static) ∷
    (codes "stop", keyword.Stop) ∷
    (codes "sub", keyword.Sub) ∷
    (codes "then", keyword.Then) ∷
    (codes "to", keyword.To) ∷
    (codes "true", keyword.True) ∷
    (codes "type", keyword.Type) ∷
    (codes "typeof", keyword.TypeOf) ∷
    (codes "until", keyword.Until) ∷
    (codes "wend", keyword.Wend) ∷
    (codes "while", keyword.While) ∷
    (codes "with", keyword.With) ∷
    (codes "withevents", keyword.WithEvents) ∷
    (codes "xor", keyword.Xor) ∷
    []

-- what stands beside this text in a table
abbrev pub sought : {A : Type 0} → List ℕ → List (List ℕ × A) → Option A
sought text [] = None
sought text (row ∷ rows) = if bytes_eq text row.0 then Some row.1 else sought text rows

-- the kept word that a case fold is
abbrev pub keyword_of : List ℕ → Option Keyword
keyword_of text = sought text keywords
