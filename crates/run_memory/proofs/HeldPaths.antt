-- Paths that frames hold, in any order.
use Rattle.std.proofs.Common.{◌≡◌, ◌++◌, List, [], ◌∷◌, reverse, map, refl, sym, ap, ◌∙◌}
use Rattle.std.specs.Prelude.{Bool, true, false, ◌||◌}
use Rattle.std.proofs.lemmas.Grind.{reverse_onto}
use Rattle.std.proofs.lemmas.List.{map-append}
use Rattle.run_memory.specs.declared.frame.Frame.{Frame}
use Rattle.run_memory.specs.declared.path.Path.{Path}
use Rattle.run_memory.specs.View.{frame_view, path_view}
use Rattle.run_memory.specs.Locked.{frame_holds, any_holds}
use Rattle.vba_meaning.specs.Paths as paths
use Rattle.vba_meaning.specs.Paths.{any_below, is_below}
use Rattle.vba_meaning.specs.Memory as plain
use Rattle.vba_meaning.specs.Memory.{paths_held, paths_in_slots, paths_kept}

or_assoc : (a b c : Bool) → (a || b) || c ≡ a || (b || c)
or_assoc true b c = refl
or_assoc false b c = refl

or_comm : (a b : Bool) → a || b ≡ b || a
or_comm true true = refl
or_comm true false = refl
or_comm false true = refl
or_comm false false = refl

pub any_append : (ps qs : List paths.Path) (q : paths.Path) → any_below (ps ++ qs) q ≡ any_below ps q || any_below qs q
any_append [] qs q = refl
any_append (p ∷ ps) qs q = ap (λ b. is_below p q || b) (any_append ps qs q) ∙ sym (or_assoc (is_below p q) (any_below ps q) (any_below qs q))

pub any_reverse : (ps : List Path) (q : paths.Path) → any_below (map path_view (reverse ps)) q ≡ any_below (map path_view ps) q
any_reverse [] q = refl
any_reverse (p ∷ ps) q =
    ap (λ xs. any_below (map path_view xs) q) (reverse_onto ps p [])
    ∙ ap (λ xs. any_below xs q) (map-append path_view (reverse ps) (p ∷ []))
    ∙ any_append (map path_view (reverse ps)) (path_view p ∷ []) q
    ∙ or_comm (any_below (map path_view (reverse ps)) q) (is_below (path_view p) q || false)
    ∙ or_assoc (is_below (path_view p) q) false (any_below (map path_view (reverse ps)) q)
    ∙ ap (λ b. is_below (path_view p) q || b) (any_reverse ps q)

pub held_first : (f : plain.Frame) (fs : List plain.Frame) (q : paths.Path)
    → any_below (paths_held (f ∷ fs)) q ≡ any_below (f.pending ++ paths_in_slots f.slots ++ paths_kept f.keeps) q || any_below (paths_held fs) q
held_first f fs q = any_append (f.pending ++ paths_in_slots f.slots ++ paths_kept f.keeps) (paths_held fs) q

held_last : (fs : List plain.Frame) (g : plain.Frame) (q : paths.Path) → any_below (paths_held (fs ++ g ∷ [])) q ≡ any_below (paths_held fs) q || any_below (g.pending ++ paths_in_slots g.slots ++ paths_kept g.keeps) q
held_last [] g q = held_first g [] q ∙ or_comm (any_below (g.pending ++ paths_in_slots g.slots ++ paths_kept g.keeps) q) false
held_last (f ∷ fs) g q =
    let a = any_below (f.pending ++ paths_in_slots f.slots ++ paths_kept f.keeps) q in
    let b = any_below (g.pending ++ paths_in_slots g.slots ++ paths_kept g.keeps) q in
    held_first f (fs ++ g ∷ []) q ∙ ap (λ h. a || h) (held_last fs g q)
    ∙ sym (or_assoc a (any_below (paths_held fs) q) b)
    ∙ sym (ap (λ h. h || b) (held_first f fs q))

held_by_callers : (cs : List Frame) (q : paths.Path) → any_below (paths_held (map frame_view (reverse cs))) q ≡ any_holds (map frame_view cs) q
unfolding frame_holds
held_by_callers [] q = refl
held_by_callers (c ∷ cs) q =
    let b = any_below ((frame_view c).pending ++ paths_in_slots (frame_view c).slots ++ paths_kept (frame_view c).keeps) q in
    ap (λ xs. any_below (paths_held (map frame_view xs)) q) (reverse_onto cs c [])
    ∙ ap (λ xs. any_below (paths_held xs) q) (map-append frame_view (reverse cs) (c ∷ []))
    ∙ held_last (map frame_view (reverse cs)) (frame_view c) q
    ∙ or_comm (any_below (paths_held (map frame_view (reverse cs))) q) b
    ∙ ap (λ h. b || h) (held_by_callers cs q)

pub locked : (f : Frame) (cs : List Frame) (q : paths.Path)
    → any_below (paths_held (frame_view f ∷ map frame_view (reverse cs))) q ≡ frame_holds (frame_view f) q || any_holds (map frame_view cs) q
unfolding frame_holds
locked f cs q =
    held_first (frame_view f) (map frame_view (reverse cs)) q
    ∙ ap (λ h. any_below ((frame_view f).pending ++ paths_in_slots (frame_view f).slots ++ paths_kept (frame_view f).keeps) q || h) (held_by_callers cs q)
