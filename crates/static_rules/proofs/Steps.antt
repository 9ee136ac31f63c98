-- The least of places that are noted one after another.
use Rattle.std.proofs.Common.{◌≡◌, ℕ, ◌+◌, ◌<◌, List, [], ◌∷◌, ◌++◌, length, take, get_or, Option, sym, ap, ◌∙◌, append_assoc}
use Rattle.std.proofs.lemmas.List.{append-nil, take_more}
use Rattle.vba_base.specs.declared.place.Refusal.{Refusal}
use Rattle.bound_project.specs.declared.declared_type.DeclaredType.{DeclaredType}
use Rattle.bound_project.specs.declared.node.Node.{Node}
use Rattle.bound_project.specs.declared.statement.StatementNode.{StatementNode}
use Rattle.bound_project.specs.declared.project.Body.{Body}
use Rattle.static_rules.specs.Broken.{least_of}
use Rattle.static_rules.specs.Scan.{kind_places, nodes_places, statement_places, statements_places, bodies_places}
use Rattle.static_rules.proofs.LeastFound.{least_of_append}

-- first these, and then those
pub noted_twice : (found between last : Option Refusal) (first second : List Refusal) → between ≡ least_of found first → last ≡ least_of between second → last ≡ least_of found (first ++ second)
noted_twice found between last first second one other = other ∙ ap (λ l. least_of l second) one ∙ sym (least_of_append found first second)

-- one more
next_noted : (found now last : Option Refusal) (before more all : List Refusal) → all ≡ before ++ more → now ≡ least_of found before → last ≡ least_of now more → last ≡ least_of found all
next_noted found now last before more all is so_far one = noted_twice found now last before more so_far one ∙ ap (λ l. least_of found l) (sym is)

nodes_push : (selected : DeclaredType) (ns : List Node) (n : Node) → nodes_places selected (ns ++ n ∷ []) ≡ nodes_places selected ns ++ kind_places selected n.place n.kind
nodes_push selected [] n = append-nil (kind_places selected n.place n.kind)
nodes_push selected (x ∷ ns) n =
    ap (λ l. kind_places selected x.place x.kind ++ l) (nodes_push selected ns n)
    ∙ sym (append_assoc (kind_places selected x.place x.kind) (nodes_places selected ns) (kind_places selected n.place n.kind))

pub nodes_next : (selected : DeclaredType) (ns : List Node) (i : ℕ) (d : Node) (found now last : Option Refusal) → i < length ns → now ≡ least_of found (nodes_places selected (take i ns))
    → last ≡ least_of now (kind_places selected (get_or ns i d).place (get_or ns i d).kind) → last ≡ least_of found (nodes_places selected (take (i + 1) ns))
nodes_next selected ns i d found now last lt so_far one =
    next_noted found now last (nodes_places selected (take i ns)) _ _
    (ap (λ l. nodes_places selected l) (take_more ns i d lt) ∙ nodes_push selected (take i ns) (get_or ns i d)) so_far one

statements_push : (ns : List Node) (ss : List StatementNode) (s : StatementNode) → statements_places ns (ss ++ s ∷ []) ≡ statements_places ns ss ++ statement_places ns s
statements_push ns [] s = append-nil (statement_places ns s)
statements_push ns (x ∷ ss) s =
    ap (λ l. statement_places ns x ++ l) (statements_push ns ss s) ∙ sym (append_assoc (statement_places ns x) (statements_places ns ss) (statement_places ns s))

pub statements_next : (ns : List Node) (ss : List StatementNode) (i : ℕ) (d : StatementNode) (found now last : Option Refusal) → i < length ss → now ≡ least_of found (statements_places ns (take i ss))
    → last ≡ least_of now (statement_places ns (get_or ss i d)) → last ≡ least_of found (statements_places ns (take (i + 1) ss))
statements_next ns ss i d found now last lt so_far one =
    next_noted found now last (statements_places ns (take i ss)) _ _
    (ap (λ l. statements_places ns l) (take_more ss i d lt) ∙ statements_push ns (take i ss) (get_or ss i d)) so_far one

abbrev body_places : Body → List Refusal
body_places b = statements_places b.nodes.items b.statements.items

bodies_push : (bs : List Body) (b : Body) → bodies_places (bs ++ b ∷ []) ≡ bodies_places bs ++ body_places b
bodies_push [] b = append-nil (body_places b)
bodies_push (x ∷ bs) b = ap (λ l. body_places x ++ l) (bodies_push bs b) ∙ sym (append_assoc (body_places x) (bodies_places bs) (body_places b))

pub bodies_next : (bs : List Body) (i : ℕ) (b : Body) (found now last : Option Refusal) → i < length bs → b ≡ get_or bs i b → now ≡ least_of found (bodies_places (take i bs))
    → last ≡ least_of now (statements_places b.nodes.items b.statements.items) → last ≡ least_of found (bodies_places (take (i + 1) bs))
bodies_next bs i b found now last lt is so_far one =
    let more : take (i + 1) bs ≡ take i bs ++ b ∷ [] = take_more bs i b lt ∙ ap (λ x. take i bs ++ x ∷ []) (sym is) in
    next_noted found now last (bodies_places (take i bs)) (body_places b) _ (ap bodies_places more ∙ bodies_push (take i bs) b) so_far one
