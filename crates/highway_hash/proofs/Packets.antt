-- The state after packets, one after another.
use Rattle.std.proofs.Common.{◌≡◌, ℕ, zero, suc, ◌+◌, ◌-◌, ◌*◌, ◌≤◌, List, [], ◌++◌, length, take, drop, refl, sym, ap, ◌∙◌, arith}
use Rattle.std.specs.List.{fold}
use Rattle.std.specs.Simd.{first_chunks}
use Rattle.std.proofs.lemmas.List.{append_assoc, drop-append-le, drop-take, length-append, length-drop, length-take-le, take-append-drop, take-append-le, take-take}
use Rattle.std.proofs.Math.Nat.{add-zero, mul-suc, zero-add}
use Rattle.std.proofs.Math.Seq.{drop-append_seam}
use Rattle.highway_hash.specs.HighwayHash.{HashState, after_packet, after_packets, lanes_of, reset}

-- a word of eight bytes that lies within the first 32 bytes
word_of_front : (xs : List ℕ) (a : ℕ) → a + 8 ≤ 32 → take 8 (drop a (take 32 xs)) ≡ take 8 (drop a xs)
word_of_front xs a h =
    let whole : a + (32 - a) ≡ 32 = omega arith in
    let rest : drop a (take (a + (32 - a)) xs) ≡ take (32 - a) (drop a xs) = drop-take a (32 - a) xs in
    let rest' : drop a (take 32 xs) ≡ take (32 - a) (drop a xs) = rw whole at rest in
    ap (λ (ys : List ℕ). take 8 ys) rest' ∙ take-take 8 (32 - a) (drop a xs) (omega arith)

-- the lanes of a packet are those of the bytes that begin with it
lanes_of_front : (xs : List ℕ) → lanes_of (take 32 xs) ≡ lanes_of xs
unfolding lanes_of
lanes_of_front xs = cc (word_of_front xs 0 (omega arith), word_of_front xs 8 (omega arith), word_of_front xs 16 (omega arith), word_of_front xs 24 (omega arith))

-- the state after packets that lie before the last bytes
pub after_packets-append : (key bytes more : List ℕ) (n : ℕ) → 32 * n ≤ length bytes → after_packets key (bytes ++ more) n ≡ after_packets key bytes n
unfolding after_packets
after_packets-append key bytes more zero h = refl
after_packets-append key bytes more (suc n) h =
    let room : 32 * n + 32 ≤ length bytes = omega (arith, mul-suc 32 n) in
    let rest : drop (32 * n) (bytes ++ more) ≡ drop (32 * n) bytes ++ more = drop-append-le (32 * n) bytes more (omega arith) in
    let front : take 32 (drop (32 * n) bytes ++ more) ≡ take 32 (drop (32 * n) bytes) = take-append-le 32 (drop (32 * n) bytes) more (omega (arith, length-drop (32 * n) bytes)) in
    let lanes : lanes_of (drop (32 * n) (bytes ++ more)) ≡ lanes_of (drop (32 * n) bytes) =
    ap lanes_of rest ∙ sym (lanes_of_front (drop (32 * n) bytes ++ more)) ∙ ap lanes_of front ∙ lanes_of_front (drop (32 * n) bytes) in
    cc (lanes, after_packets-append key bytes more n (omega arith))

-- the state after more packets, which begin where the first n end
pub after_more_packets : (key bytes more : List ℕ) (n k : ℕ) → length bytes ≡ 32 * n → 32 * k ≤ length more → fold after_packet (after_packets key bytes n) (first_chunks 32 k more) ≡ after_packets key (bytes ++ more) (n + k)
unfolding after_packets
after_more_packets key bytes more n zero h room =
    rw (add-zero n) (sym (after_packets-append key bytes more n (omega arith)))
after_more_packets key bytes more n (suc k) h room =
    let front : List ℕ = take 32 more in
    let behind : List ℕ = drop 32 more in
    let long : length (bytes ++ front) ≡ 32 * suc n = omega (arith, length-append bytes front, length-take-le 32 more (omega arith)) in
    let packet : drop (32 * n) (bytes ++ front) ≡ front = rw (sym h) (drop-append_seam bytes front) in
    let next : after_packet (after_packets key bytes n) front ≡ after_packets key (bytes ++ front) (suc n) =
    cc (packet, after_packets-append key bytes front n (omega arith)) in
    let joined : (bytes ++ front) ++ behind ≡ bytes ++ more = append_assoc bytes front behind ∙ ap (λ (ys : List ℕ). bytes ++ ys) (take-append-drop 32 more) in
    let count : suc n + k ≡ n + suc k = omega arith in
    ap (λ (s : HashState). fold after_packet s (first_chunks 32 k behind)) next
    ∙ after_more_packets key (bytes ++ front) behind (suc n) k long (omega (arith, length-drop 32 more))
    ∙ cc (joined, count)

-- the state after the first packets, by the packets themselves
pub after_whole_packets : (key bytes : List ℕ) (n : ℕ) → 32 * n ≤ length bytes → fold after_packet (reset key) (first_chunks 32 n bytes) ≡ after_packets key bytes n
unfolding after_packets
after_whole_packets key bytes n room = after_more_packets key [] bytes 0 n refl room ∙ ap (after_packets key bytes) (zero-add n)
