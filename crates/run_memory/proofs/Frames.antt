-- Frames by the number of frames below them.
use Rattle.std.proofs.Common.{◌≡◌, ℕ, zero, suc, ◌++◌, List, [], ◌∷◌, length, reverse, map, refl, sym, ap, ◌∙◌}
use Rattle.std.specs.Prelude.{option_map, slice_get, ◌==◌, if◌then◌else◌}
use Rattle.std.proofs.lemmas.Grind.{reverse_onto}
use Rattle.std.proofs.lemmas.List.{map-append, length-map, length-reverse}
use Rattle.std.proofs.Math.Dec.{eqb-suc-zero, eqb-zero-suc, eqb-suc-suc}
use Rattle.std.proofs.lemmas.Bool.{ne_eqb}
use Rattle.run_memory.specs.declared.frame.Frame.{Frame}
use Rattle.run_memory.specs.View.{frame_view}
use Rattle.run_memory.specs.Looks.{frame_or}
use Rattle.vba_meaning.specs.Memory as plain

length_more : (fs : List plain.Frame) (g : plain.Frame) → length (fs ++ g ∷ []) ≡ suc (length fs)
length_more [] g = refl
length_more (f ∷ fs) g = ap suc (length_more fs g)

at_last : (fs : List plain.Frame) (g : plain.Frame) → plain.frame_at (fs ++ g ∷ []) zero ≡ g
at_last [] g = refl
at_last (f ∷ fs) g =
    ap (λ n. if n == zero then f else plain.frame_at (fs ++ g ∷ []) zero) (length_more fs g)
    ∙ ap (λ b. if b then f else plain.frame_at (fs ++ g ∷ []) zero) (eqb-suc-zero (length fs))
    ∙ at_last fs g

at_more : (fs : List plain.Frame) (g : plain.Frame) (k : ℕ) → plain.frame_at (fs ++ g ∷ []) (suc k) ≡ plain.frame_at fs k
at_more [] g k = ap (λ b. if b then g else plain.no_frame) (eqb-zero-suc k)
at_more (f ∷ fs) g k =
    ap (λ n. if n == suc k then f else plain.frame_at (fs ++ g ∷ []) (suc k)) (length_more fs g)
    ∙ ap (λ b. if b then f else plain.frame_at (fs ++ g ∷ []) (suc k)) (eqb-suc-suc (length fs) k)
    ∙ ap (λ h. if length fs == k then f else h) (at_more fs g k)

turned : (c : Frame) (cs : List Frame) → map frame_view (reverse (c ∷ cs)) ≡ map frame_view (reverse cs) ++ frame_view c ∷ []
turned c cs = ap (map frame_view) (reverse_onto cs c []) ∙ map-append frame_view (reverse cs) (c ∷ [])

pub frame_below : (cs : List Frame) (k : ℕ) → plain.frame_at (map frame_view (reverse cs)) k ≡ frame_or (option_map frame_view (slice_get cs k))
frame_below [] k = refl
frame_below (c ∷ cs) zero = ap (λ fs. plain.frame_at fs zero) (turned c cs) ∙ at_last (map frame_view (reverse cs)) (frame_view c)
frame_below (c ∷ cs) (suc k) =
    ap (λ fs. plain.frame_at fs (suc k)) (turned c cs) ∙ at_more (map frame_view (reverse cs)) (frame_view c) k ∙ frame_below cs k

pub frame_caller : (f : Frame) (cs : List Frame) (k : ℕ) → (k ≡ length cs → ⊥)
    → plain.frame_at (frame_view f ∷ map frame_view (reverse cs)) k ≡ frame_or (option_map frame_view (slice_get cs k))
frame_caller f cs k h =
    let below = map frame_view (reverse cs) in
    let size : length below ≡ length cs = length-map (reverse cs) frame_view ∙ length-reverse cs in
    ap (λ b. if b then frame_view f else plain.frame_at below k) (ne_eqb (length below) k (λ e. h (sym e ∙ size)))
    ∙ frame_below cs k
