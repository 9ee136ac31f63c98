-- The laws of reading a Debug.Print statement.
use Rattle.std.proofs.Common.{◌≡◌, ℕ, zero, suc, ◌<◌, ◌≤◌, Bool, true, false, List, [], ◌∷◌, ◌++◌, length, Option, Some, None, IfSome, refl, sym, ap, ◌∙◌, subst, arith, append_assoc, ◌⊎◌, inl, inr}
use Rattle.std.specs.Prelude.{codes, ◌&&◌}
use Rattle.std.proofs.lemmas.Bool.{cond_both, cases_Bool, false_from_ne_true}
use Rattle.std.proofs.lemmas.List.{length-append}
use Rattle.std.proofs.lemmas.Slice.Eq.{bytes_eq-Decides}
use Rattle.vba_lexer.specs.declared.token.Token.{Token}
use Rattle.vba_words.specs.declared.keyword.Keyword.TheVariants as keyword
use Rattle.vba_words.specs.declared.mark.Mark.TheVariants as mark
use Rattle.vba_words.specs.declared.reading.Reading.{Reading}
use Rattle.vba_words.specs.declared.reading.Reading.TheVariants as reading
use Rattle.vba_words.specs.declared.reading.ReadToken.{ReadToken}
use Rattle.vba_words.specs.Spelling.{read, marked}
use Rattle.vba_words.specs.Words.{is_word, reads_word}
use Rattle.vba_expression.specs.declared.part.Part.{Part}
use Rattle.vba_expression.specs.declared.part.Part.TheVariants as part
use Rattle.vba_expression.specs.Tree.{Expr}
use Rattle.vba_expression.specs.Spelling.{spell}
use Rattle.vba_expression.specs.Fitting.{Fits}
use Rattle.vba_expression.specs.Parts.{part_of, reading_part}
use Rattle.vba_expression.specs.Taking.{StopsAt, Stops}
use Rattle.vba_expression.proofs.Reducing.{chosen_true}
use Rattle.vba_expression.proofs.Complete.{level_small}
use Rattle.vba_expression.proofs.Inverses.{takes, again}
use Rattle.vba_tree.specs.declared.simple.PrintMark.{PrintMark}
use Rattle.vba_tree.specs.declared.simple.PrintMark.TheVariants as print_mark
use Rattle.vba_tree.specs.Tree.{PrintItem, Simple, debug_print}
use Rattle.vba_tree.specs.Spelling.{place_word, optional, print_mark_of as mark_of, spell_print_items, spell_simple}
use Rattle.vba_tree.specs.Forms.{goes_on, begins_print, Formed, FormedPrintItems}
use Rattle.vba_tree.specs.Fitting.{is_print}
use Rattle.vba_grammar.specs.Front.{◌>>=◌, found_as, whole_at, ends, ending}
use Rattle.vba_grammar.specs.Front as front
use Rattle.vba_grammar.specs.Statements.{print_mark_of, printed_at, item_by, items_at, print_at}
use Rattle.vba_grammar.proofs.Calm.{Quiet, quiet, quiet_append, may_begin, Starts, starts}

-- a value isn't printed before these
abbrev ends_print : Reading → Bool
ends_print (reading.Mark mark.Colon) = true
ends_print (reading.Mark mark.Semicolon) = true
ends_print (reading.Mark mark.Comma) = true
ends_print (reading.Keyword keyword.Else) = true
ends_print other = false

printed_none : (token : Token) (k : Reading) (ts : List ReadToken) → ends_print k ≡ true → printed_at (read token k ∷ ts) ≡ Some (None, read token k ∷ ts)
printed_none token (reading.Mark mark.Colon) ts h = refl
printed_none token (reading.Mark mark.Semicolon) ts h = refl
printed_none token (reading.Mark mark.Comma) ts h = refl
printed_none token (reading.Keyword keyword.Else) ts h = refl
printed_none token other ts h = absurd cc

printed_some : (token : Token) (k : Reading) (ts : List ReadToken) → ends_print k ≡ false
    → printed_at (read token k ∷ ts) ≡ found_as Some (whole_at (read token k ∷ ts))
printed_some token (reading.Mark mark.Colon) ts h = absurd cc
printed_some token (reading.Mark mark.Semicolon) ts h = absurd cc
printed_some token (reading.Mark mark.Comma) ts h = absurd cc
printed_some token (reading.Keyword keyword.Else) ts h = absurd cc
printed_some token other ts h = refl

-- what is no part of an expression, or a comma
abbrev ends_part : Part → Bool
ends_part part.Outside = true
ends_part part.Comma = true
ends_part other = false

print_part : (token : Token) (k : Reading) → ends_print k ≡ true → ends_part (reading_part token k) ≡ true
print_part token (reading.Mark mark.Colon) h = refl
print_part token (reading.Mark mark.Semicolon) h = refl
print_part token (reading.Mark mark.Comma) h = refl
print_part token (reading.Keyword keyword.Else) h = refl
print_part token other h = absurd cc

part_stops : (n : ℕ) (p : Part) → ends_part p ≡ true → StopsAt n p
part_stops n part.Outside h = tt
part_stops n part.Comma h = tt
part_stops n other h = absurd cc

part_no_begin : (p : Part) → ends_part p ≡ true → may_begin p ≡ true → ⊥
part_no_begin part.Outside h e = absurd cc
part_no_begin part.Comma h e = absurd cc
part_no_begin other h e = absurd cc

end_prints : (token : Token) (k : Reading) → ends (read token k ∷ []) ≡ true → ends_print k ≡ true
end_prints token (reading.Mark mark.Colon) h = refl
end_prints token (reading.Keyword keyword.Else) h = refl
end_prints token other h = absurd cc

-- the tokens behind a value that is printed
abbrev pub PrintEnds : List ReadToken → Type 0
PrintEnds [] = Unit {0}
PrintEnds (t ∷ ts) = ends_print t.reading ≡ true

pub end_print : (rest : List ReadToken) → ends rest ≡ true → PrintEnds rest
end_print [] h = tt
end_print (t ∷ ts) h = end_prints t.token t.reading h

print_stops : (n : ℕ) (rest : List ReadToken) → PrintEnds rest → Stops n rest
print_stops n [] h = tt
print_stops n (t ∷ ts) h = part_stops n (part_of t) (print_part t.token t.reading h)

printed_whole : (ts : List ReadToken) → Starts ts → printed_at ts ≡ found_as Some (whole_at ts)
printed_whole [] h = absurd h
printed_whole (t ∷ ts) h =
    printed_some t.token t.reading ts
    (false_from_ne_true (ends_print t.reading) (λ e. part_no_begin (part_of t) (print_part t.token t.reading e) h))

printed_before : (rest : List ReadToken) → PrintEnds rest → printed_at rest ≡ Some (None, rest)
printed_before [] h = refl
printed_before (t ∷ ts) h = printed_none t.token t.reading ts h

pub printed_complete : (v : Option Expr) (rest : List ReadToken) → IfSome v Fits → PrintEnds rest → printed_at (optional spell v ++ rest) ≡ Some (v, rest)
printed_complete None rest w h = printed_before rest h
printed_complete (Some e) rest w h =
    printed_whole (spell e ++ rest) (starts e rest)
    ∙ ap (λ o. found_as Some o) (again 15 (spell e ++ rest) rest e (record { same = refl; under = level_small e; fits = w; stops = print_stops 15 rest h }))

abbrev PrintedGood : List ReadToken → front.Found (Option Expr) → Type 0
PrintedGood ts None = Unit {0}
PrintedGood ts (Some vr) = (ts ≡ optional spell vr.0 ++ vr.1) × IfSome vr.0 Fits

whole_good : (ts : List ReadToken) (o : front.Found Expr) → whole_at ts ≡ o → PrintedGood ts (found_as Some o)
whole_good ts None h = tt
whole_good ts (Some er) h = let a = takes 15 ts er.1 er.0 (omega arith) h in (a.same, a.fits)

pub printed_good : (ts : List ReadToken) → PrintedGood ts (printed_at ts)
printed_good [] = (refl, tt)
printed_good (t ∷ ts) = by_case (cases_Bool (ends_print t.reading))
  where
    by_case : (ends_print t.reading ≡ true) ⊎ (ends_print t.reading ≡ false) → PrintedGood (t ∷ ts) (printed_at (t ∷ ts))
    by_case (inl h) = subst (PrintedGood (t ∷ ts)) (sym (printed_none t.token t.reading ts h)) (refl, tt)
    by_case (inr h) = subst (PrintedGood (t ∷ ts)) (sym (printed_some t.token t.reading ts h)) (whole_good (t ∷ ts) (whole_at (t ∷ ts)) refl)

-- what is printed behind the first value
mark_is : (token : Token) (k : Reading) (m : PrintMark) → print_mark_of k ≡ Some m → read token k ≡ marked token (mark_of m)
mark_is token (reading.Mark mark.Semicolon) print_mark.Semicolon h = refl
mark_is token (reading.Mark mark.Comma) print_mark.Comma h = refl
mark_is token (reading.Mark mark.Semicolon) print_mark.Comma h = absurd cc
mark_is token (reading.Mark mark.Comma) print_mark.Semicolon h = absurd cc
mark_is token other m h = absurd cc

abbrev ItemsGood : List ReadToken → front.Found (List PrintItem) → Type 0
ItemsGood ts None = Unit {0}
ItemsGood ts (Some ir) = (ts ≡ spell_print_items ir.0 ++ ir.1) × FormedPrintItems ir.0

next_good : (t : ReadToken) (ts rest : List ReadToken) (m : PrintMark) (v : Option Expr) (o : front.Found (List PrintItem))
    → t ≡ marked t.token (mark_of m) → ts ≡ optional spell v ++ rest → IfSome v Fits → ItemsGood rest o
    → ItemsGood (t ∷ ts) (found_as (λ items. record { mark = m; mark_token = t.token; value = v } ∷ items) o)
next_good t ts rest m v None e s w g = tt
next_good t ts rest m v (Some ir) e s w g =
    (ap (λ z. z ∷ ts) e ∙ ap (λ z. marked t.token (mark_of m) ∷ z) (s ∙ (ap (λ z. optional spell v ++ z) g.0 ∙ sym (append_assoc (optional spell v) (spell_print_items ir.0) ir.1))), (w, g.1))

value_next : (t : ReadToken) (ts : List ReadToken) (m : PrintMark) (more : List ReadToken → front.Found (List PrintItem)) (o : front.Found (Option Expr))
    → t ≡ marked t.token (mark_of m) → ((us : List ReadToken) → ItemsGood us (more us)) → PrintedGood ts o
    → ItemsGood (t ∷ ts) (o >>= λ printed rest. found_as (λ items. record { mark = m; mark_token = t.token; value = printed } ∷ items) (more rest))
value_next t ts m more None e g p = tt
value_next t ts m more (Some vr) e g p = next_good t ts vr.1 m vr.0 (more vr.1) e p.0 p.1 (g vr.1)

item_good : (t : ReadToken) (ts : List ReadToken) (more : List ReadToken → front.Found (List PrintItem)) (o : Option PrintMark)
    → print_mark_of t.reading ≡ o → ((us : List ReadToken) → ItemsGood us (more us)) → ItemsGood (t ∷ ts) (item_by t ts more o)
item_good t ts more None h g = (refl, tt)
item_good t ts more (Some m) h g = value_next t ts m more (printed_at ts) (mark_is t.token t.reading m h) g (printed_good ts)

pub items_good : (n : ℕ) (ts : List ReadToken) → ItemsGood ts (items_at n ts)
items_good zero ts = tt
items_good (suc n) [] = (refl, tt)
items_good (suc n) (t ∷ ts) = item_good t ts (items_at n) (print_mark_of t.reading) refl (items_good n)

end_no_mark : (token : Token) (k : Reading) → ends (read token k ∷ []) ≡ true → print_mark_of k ≡ None
end_no_mark token (reading.Mark mark.Colon) h = refl
end_no_mark token (reading.Keyword keyword.Else) h = refl
end_no_mark token other h = absurd cc

mark_back : (m : PrintMark) → print_mark_of (reading.Mark (mark_of m)) ≡ Some m
mark_back print_mark.Semicolon = refl
mark_back print_mark.Comma = refl

mark_ends : (m : PrintMark) → ends_print (reading.Mark (mark_of m)) ≡ true
mark_ends print_mark.Semicolon = refl
mark_ends print_mark.Comma = refl

pub items_end : (items : List PrintItem) (rest : List ReadToken) → ends rest ≡ true → PrintEnds (spell_print_items items ++ rest)
items_end [] rest h = end_print rest h
items_end (item ∷ items) rest h = mark_ends item.mark

items_complete : (items : List PrintItem) (n : ℕ) (rest : List ReadToken) → length items < n → FormedPrintItems items → ends rest ≡ true
    → items_at n (spell_print_items items ++ rest) ≡ Some (items, rest)
items_complete items zero rest l w h = absurd (omega arith)
items_complete [] (suc n) [] l w h = refl
items_complete [] (suc n) (t ∷ ts) l w h = ap (item_by t ts (items_at n)) (end_no_mark t.token t.reading h)
items_complete (item ∷ items) (suc n) rest l w h =
    let us : List ReadToken = spell_print_items items ++ rest in
    let s : (optional spell item.value ++ spell_print_items items) ++ rest ≡ optional spell item.value ++ us =
    append_assoc (optional spell item.value) (spell_print_items items) rest in
    ap (λ z. items_at (suc n) (marked item.mark_token (mark_of item.mark) ∷ z)) s
    ∙ (ap (item_by (marked item.mark_token (mark_of item.mark)) (optional spell item.value ++ us) (items_at n)) (mark_back item.mark)
    ∙ (ap (λ o. o >>= λ printed left. found_as (λ others. record { mark = item.mark; mark_token = item.mark_token; value = printed } ∷ others) (items_at n left))
    (printed_complete item.value us w.0 (items_end items rest h))
    ∙ ap (λ o. found_as (λ others. record { mark = item.mark; mark_token = item.mark_token; value = item.value } ∷ others) o)
    (items_complete items n rest (omega arith) w.1 h)))

items_few : (items : List PrintItem) (rest : List ReadToken) → length items ≤ length (spell_print_items items ++ rest)
items_few [] rest = omega arith
items_few (item ∷ items) rest =
    let a = items_few items rest in
    let b = length-append (spell_print_items items) rest in
    let c = length-append (optional spell item.value ++ spell_print_items items) rest in
    let d = length-append (optional spell item.value) (spell_print_items items) in
    omega arith

-- a Debug.Print statement that is written is read
pub print_complete : (s : Simple) (rest : List ReadToken) → is_print s ≡ true → Formed s → ends rest ≡ true
    → print_at (spell_simple s ++ rest) ≡ Some (s, rest)
print_complete (debug_print debug_word dot print_word first items) rest k w h =
    let us : List ReadToken = spell_print_items items ++ rest in
    ap (λ z. print_at (place_word debug_word (codes "debug") ∷ marked dot mark.Dot ∷ place_word print_word (codes "print") ∷ z))
    (append_assoc (optional spell first) (spell_print_items items) rest)
    ∙ (ap (λ o. o >>= λ printed left. ending (found_as (debug_print debug_word dot print_word printed) (items_at (suc (length left)) left)))
    (printed_complete first us w.0 (items_end items rest h))
    ∙ (ap (λ o. ending (found_as (debug_print debug_word dot print_word first) o))
    (items_complete items (suc (length us)) rest (omega (arith, items_few items rest)) w.1 h)
    ∙ chosen_true (ends rest) _ _ h))
print_complete other rest k w h = absurd cc

pub print_begins : (s : Simple) (rest : List ReadToken) → is_print s ≡ true → begins_print (spell_simple s ++ rest) ≡ true
print_begins (debug_print debug_word dot print_word first items) rest k = refl
print_begins other rest k = absurd cc

-- a word of the grammar and the dot that goes on, by what is read
word_is : (token : Token) (k : Reading) (fold : List ℕ) → is_word k fold ≡ true → read token k ≡ place_word token fold
word_is token (reading.Name name None false) fold h = ap (place_word token) ((bytes_eq-Decides name fold).0 h)
word_is token other fold h = absurd cc

dot_is : (token : Token) (k : Reading) → goes_on k ≡ true → read token k ≡ marked token mark.Dot
dot_is token (reading.Mark mark.Dot) h = refl
dot_is token other h = absurd cc

and_is : (a b : Bool) → (a && b) ≡ true → (a ≡ true) × (b ≡ true)
and_is true b h = (refl, h)
and_is false b h = absurd cc

-- tokens that begin with Debug.Print
pub record Printing (ts : List ReadToken) : Type 0 where
  pub debug_word : Token
  pub dot : Token
  pub print_word : Token
  pub rest : List ReadToken
  pub same : ts ≡ place_word debug_word (codes "debug") ∷ marked dot mark.Dot ∷ place_word print_word (codes "print") ∷ rest

pub printing : (ts : List ReadToken) → begins_print ts ≡ true → Printing ts
printing [] h = absurd cc
printing (a ∷ []) h = absurd cc
printing (a ∷ b ∷ []) h = absurd cc
printing (a ∷ b ∷ c ∷ ts) h =
    let p = and_is (reads_word a (codes "debug")) (goes_on b.reading && reads_word c (codes "print")) h in
    let q = and_is (goes_on b.reading) (reads_word c (codes "print")) p.1 in
    record {
      debug_word = a.token;
      dot = b.token;
      print_word = c.token;
      rest = ts;
      same = ap (λ z. z ∷ b ∷ c ∷ ts) (word_is a.token a.reading (codes "debug") p.0)
          ∙ (ap (λ z. place_word a.token (codes "debug") ∷ z ∷ c ∷ ts) (dot_is b.token b.reading q.0)
          ∙ ap (λ z. place_word a.token (codes "debug") ∷ marked b.token mark.Dot ∷ z ∷ ts) (word_is c.token c.reading (codes "print") q.1));
    }

-- a Debug.Print statement at the front, before which a statement ends
pub record SpellsPrint (ts : List ReadToken) (s : Simple) (rest : List ReadToken) : Type 0 where
  pub same : ts ≡ spell_simple s ++ rest
  pub kind : is_print s ≡ true
  pub ok : Formed s
  pub over : ends rest ≡ true

abbrev pub PrintGood : List ReadToken → front.Found Simple → Type 0
PrintGood ts None = Unit {0}
PrintGood ts (Some sr) = SpellsPrint ts sr.0 sr.1

ending_good : (ts us rest : List ReadToken) (a b c : Token) (v : Option Expr) (o : front.Found (List PrintItem))
    → ts ≡ place_word a (codes "debug") ∷ marked b mark.Dot ∷ place_word c (codes "print") ∷ us → us ≡ optional spell v ++ rest → IfSome v Fits
    → ItemsGood rest o → PrintGood ts (ending (found_as (debug_print a b c v) o))
ending_good ts us rest a b c v None e s w g = tt
ending_good ts us rest a b c v (Some ir) e s w g =
    cond_both (ends ir.1) (Some (debug_print a b c v ir.0, ir.1)) None (PrintGood ts)
    (λ h. record {
      same = e ∙ ap (λ z. place_word a (codes "debug") ∷ marked b mark.Dot ∷ place_word c (codes "print") ∷ z)
          (s ∙ (ap (λ z. optional spell v ++ z) g.0 ∙ sym (append_assoc (optional spell v) (spell_print_items ir.0) ir.1)));
      kind = refl;
      ok = (w, g.1);
      over = h;
    })
    (λ h. tt)

first_good : (ts us : List ReadToken) (a b c : Token) (o : front.Found (Option Expr))
    → ts ≡ place_word a (codes "debug") ∷ marked b mark.Dot ∷ place_word c (codes "print") ∷ us → PrintedGood us o
    → PrintGood ts (o >>= λ first rest. ending (found_as (debug_print a b c first) (items_at (suc (length rest)) rest)))
first_good ts us a b c None e g = tt
first_good ts us a b c (Some vr) e g =
    ending_good ts us vr.1 a b c vr.0 (items_at (suc (length vr.1)) vr.1) e g.0 g.1 (items_good (suc (length vr.1)) vr.1)

-- what is read is spelled
pub print_good : (ts : List ReadToken) → begins_print ts ≡ true → PrintGood ts (print_at ts)
print_good ts h =
    let p = printing ts h in
    subst (λ z. PrintGood ts (print_at z)) (sym p.same)
    (first_good ts p.rest p.debug_word p.dot p.print_word (printed_at p.rest) p.same (printed_good p.rest))

quiet_value : (v : Option Expr) → Quiet (optional spell v)
quiet_value None = tt
quiet_value (Some e) = quiet e

quiet_mark : (t : Token) (m : PrintMark) → ends (marked t (mark_of m) ∷ []) ≡ false
quiet_mark t print_mark.Semicolon = refl
quiet_mark t print_mark.Comma = refl

quiet_items : (items : List PrintItem) → Quiet (spell_print_items items)
quiet_items [] = tt
quiet_items (item ∷ items) =
    (quiet_mark item.mark_token item.mark, quiet_append (optional spell item.value) _ (quiet_value item.value) (quiet_items items))

pub quiet_print : (s : Simple) → is_print s ≡ true → Quiet (spell_simple s)
quiet_print (debug_print a b c v items) k = (refl, (refl, (refl, quiet_append (optional spell v) _ (quiet_value v) (quiet_items items))))
quiet_print other k = absurd cc
