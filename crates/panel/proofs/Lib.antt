mod Join
