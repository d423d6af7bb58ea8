-- What each step of a hasher does to the bytes that it has taken.
use Rattle.std.proofs.Common.{◌≡◌, ℕ, suc, ◌+◌, ◌*◌, ◌/◌, ◌<◌, List, [], ◌++◌, length, drop, ap, arith}
use Rattle.std.specs.List.{fold}
use Rattle.std.specs.Simd.{first_chunks}
use Rattle.std.proofs.lemmas.List.{drop-append-le, length-append, length-drop}
use Rattle.std.proofs.Math.ListN.{drop_of_length-le}
use Rattle.std.proofs.Math.Seq.{drop-append-add}
use Rattle.highway_hash.specs.HighwayHash.{after_packet, after_packets}
use Rattle.highway_hash.specs.Hashers.{HasherValue, hasher_of}
use Rattle.highway_hash.proofs.Packets.{after_more_packets, after_packets-append}

-- more bytes held, which don't make a packet
pub held_more : (h : HasherValue) (key bytes more : List ℕ) → h ≡ hasher_of key bytes → length h.held + length more < 32 → record h { held = h.held ++ more } ≡ hasher_of key (bytes ++ more)
unfolding hasher_of
held_more h key bytes more e short =
    let n : ℕ = length bytes / 32 in
    let held : length (drop (32 * n) bytes) + length more < 32 = rw e at short in
    let packets : length (bytes ++ more) / 32 ≡ n = omega (arith, length-append bytes more, length-drop (32 * n) bytes) in
    let state = after_packets-append key bytes more n (omega arith) in
    let rest = drop-append-le (32 * n) bytes more (omega arith) in
    rw (e, packets) (cc (state, rest))

-- bytes that complete a packet
pub packet_completed : (h : HasherValue) (key bytes more : List ℕ) → h ≡ hasher_of key bytes → length h.held + length more ≡ 32 → record { state = after_packet h.state (h.held ++ more); held = [] } ≡ hasher_of key (bytes ++ more)
unfolding hasher_of after_packets
packet_completed h key bytes more e whole =
    let n : ℕ = length bytes / 32 in
    let held : length (drop (32 * n) bytes) + length more ≡ 32 = rw e at whole in
    let long : length (bytes ++ more) ≡ 32 * suc n = omega (arith, length-append bytes more, length-drop (32 * n) bytes) in
    let packets : length (bytes ++ more) / 32 ≡ suc n = omega arith in
    let state = after_packets-append key bytes more n (omega arith) in
    let packet = drop-append-le (32 * n) bytes more (omega arith) in
    let rest : drop (32 * suc n) (bytes ++ more) ≡ [] = drop_of_length-le (bytes ++ more) (omega arith) in
    rw (e, packets) (cc (state, packet, rest))

-- bytes taken while none are held
pub packets_taken : (h : HasherValue) (key bytes more : List ℕ) → h ≡ hasher_of key bytes → h.held ≡ []
    → record { state = fold after_packet h.state (first_chunks 32 (length more / 32) more); held = drop (length more / 32 * 32) more } ≡ hasher_of key (bytes ++ more)
unfolding hasher_of
packets_taken h key bytes more e none =
    let n : ℕ = length bytes / 32 in
    let k : ℕ = length more / 32 in
    let held : drop (32 * n) bytes ≡ [] = rw e at none in
    let long : length bytes ≡ 32 * n = omega (arith, length-drop (32 * n) bytes, ap length held) in
    let packets : length (bytes ++ more) / 32 ≡ n + k = omega (arith, length-append bytes more) in
    let state = after_more_packets key bytes more n k long (omega arith) in
    let place : 32 * (n + k) ≡ length bytes + k * 32 = omega arith in
    let rest : drop (32 * (n + k)) (bytes ++ more) ≡ drop (k * 32) more = rw place (drop-append-add bytes more (k * 32)) in
    rw (e, packets) (cc (state, rest))
