-- `lists::write_rooms` meets its contract. The loop's invariant: the jobs of the first places are written (proofs/RoomStores.antt).
-- Assumes nothing.
use Rattle.room_order.proofs.RoomStores.{RoomsPut}
use Rattle.room_order.proofs.lists.write_rooms.Given as goal

abbrev pub invariant-loop-place : goal.invariant-loop-place
invariant-loop-place l = RoomsPut l.rooms l.order l.count l.initial.list l.place l.list
